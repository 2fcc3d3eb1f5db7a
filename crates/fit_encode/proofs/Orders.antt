-- What the writing pass keeps of each local message type: its byte order, which is all that the bytes of records depend on, and how
-- many bytes its data messages have.
use Rattle.fit_encode.proofs.Common.{◌≡◌, ℕ, ◌<◌, inl, inr, Bool, true, false, cond, List, ◌∷◌, length, get_or, set, Some, None, refl, sym, ap, ◌∙◌, subst, ltb}
use Rattle.fit_encode.proofs.Common.{lt-ltb, get_or-set_same, get_or-set_other, arith, slice_index_or, unwrap_or, option_map, option_and_then, cases_eq, Order}
use Rattle.fit_encode.proofs.Common.{Little, Defined, Record, Define, Data, Environment, learn, defined_at, defined_by, describe, description, Fits, DataFits}
use Rattle.fit_encode.proofs.Common.{data_header, data_bytes, record_bytes, order_at, bytes_in_order, order_in, orders_after, size_in, sizes_after}
use Rattle.fit_encode.proofs.Common.{MessageDef, Values}
use Rattle.fit_encode.proofs.Common.{IsSomeAnd, empty_environment}
use Rattle.std.specs.Prelude.{Option, replicate}
use Rattle.std.proofs.Common.{zero, suc}
use Rattle.std.proofs.Math.ListN.{length-set}
use Rattle.std.proofs.lemmas.List.{length-map}
use Rattle.fit_record.specs.Environment.{dev_code, dev_defs}
use Rattle.fit_record.specs.Records.{message_size, body_length}
use Rattle.fit_record.specs.declared.learn.Description.{Description}
use Rattle.fit_record.proofs.MessageSizes.{message_size_is}
use Rattle.fit_record.proofs.RecordLengths.{length-definition, length-data}

-- The values are those of the local message types that are known.
abbrev pub AreValues : {A T : Type 0} → (Defined A → T) → T → Environment A → List T → Type 0
AreValues f none e values = (local : ℕ) → unwrap_or (option_map f (defined_at e local)) none ≡ slice_index_or values local none

abbrev pub AreOrders : {A : Type 0} → Environment A → List Order → Type 0
AreOrders e orders = AreValues (λ p. p.definition.order) Little e orders

abbrev pub AreSizes : {A : Type 0} → Environment A → List ℕ → Type 0
AreSizes e sizes = AreValues message_size 0 e sizes

pub in_order : {A : Type 0} (e : Environment A) (orders : List Order) (r : Record A) → AreOrders e orders
    → bytes_in_order (order_in orders r) r ≡ record_bytes e r
in_order e orders (Define d) h = refl
in_order e orders (Data v) h = ap (λ o. data_header v.local v.offset ∷ data_bytes o v) (sym (h v.local))

message_length : {A : Type 0} (o : Order) (p : Option (Defined A)) (v : Values A) → IsSomeAnd p (DataFits v)
    → unwrap_or (option_map message_size p) 0 ≡ length (data_bytes o v)
message_length o None v fits = absurd fits
message_length o (Some p) v fits = sym (length-data o v p fits)

pub in_size : {A : Type 0} (e : Environment A) (sizes : List ℕ) (r : Record A) → Fits e r → AreSizes e sizes → size_in sizes r ≡ length (record_bytes e r)
in_size e sizes (Define d) fits h = sym (length-definition d)
in_size e sizes (Data v) fits h = omega (arith, h v.local, message_length (order_at e v.local) (defined_at e v.local) v fits)

-- ---- nothing is known

all_same : {T : Type 0} (n : ℕ) (x : T) (i : ℕ) → get_or (replicate n x) i x ≡ x
all_same zero x i = refl
all_same (suc n) x zero = refl
all_same (suc n) x (suc i) = all_same n x i

pub none_known : {A T : Type 0} (f : Defined A → T) (none : T) → AreValues {A = A} f none empty_environment (replicate 16 none)
none_known {A} f none local =
    ap (λ (o : Option (Defined A)). unwrap_or (option_map f o) none) (all_same 16 None local) ∙ sym (all_same 16 none local)

-- ---- the values after a record

value_described : {A T : Type 0} (f : Defined A → T) (none : T) (e : Environment A) (s : Option Description) (values : List T) → AreValues f none e values
    → AreValues f none (describe e s) values
value_described f none e None values h = h
value_described f none e (Some s) values h = h

value_set : {A T : Type 0} (f : Defined A → T) (none : T) (places : List (Option (Defined A))) (values : List T) (k : ℕ) (p : Defined A) (local : ℕ)
    → k < length places → k < length values
    → unwrap_or (option_map f (get_or places local None)) none ≡ get_or values local none
    → unwrap_or (option_map f (get_or (set places k (Some p)) local None)) none ≡ get_or (set values k (f p)) local none
value_set {A} {T} f none places values k p local less long h =
    let at : Option (Defined A) → T = λ o. unwrap_or (option_map f o) none in
    elim (cases_eq local k) [
      | inl e ↦ subst (λ n. at (get_or (set places k (Some p)) n None) ≡ get_or (set values k (f p)) n none) (sym e)
          (ap at (get_or-set_same places k (Some p) None less) ∙ sym (get_or-set_same values k (f p) none long))
      | inr ne ↦ ap at (get_or-set_other places k local (Some p) None ne) ∙ h ∙ sym (get_or-set_other values k local (f p) none ne)
    ]

value_defined : {A T : Type 0} (f : Defined A → T) (none : T) (e : Environment A) (values : List T) (d : MessageDef A) (value : T) → d.local < 16
    → length e.places ≡ 16 → length values ≡ 16 → f (defined_by e d) ≡ value → AreValues f none e values
    → AreValues f none (learn e (Define d)) (cond (ltb d.local 16) (set values d.local value) values)
value_defined f none e values d value small long same is h local =
    value_set f none e.places values d.local (defined_by e d) local (omega arith) (omega arith) (h local)
    ∙ ap (λ v. get_or (set values d.local v) local none) is
    ∙ sym (ap (λ b. get_or (cond b (set values d.local value) values) local none) (lt-ltb d.local 16 small))

pub orders_next : {A : Type 0} (e : Environment A) (orders : List Order) (r : Record A) → Fits e r → length e.places ≡ 16 → length orders ≡ 16
    → AreOrders e orders
    → AreOrders (learn e r) (orders_after orders r)
orders_next e orders (Define d) fits long same h = value_defined (λ p. p.definition.order) Little e orders d d.order fits.local long same refl h
orders_next e orders (Data v) fits long same h =
    value_described (λ p. p.definition.order) Little e (option_and_then (λ p. description p.definition v) (defined_at e v.local)) orders h

pub sizes_next : {A : Type 0} (e : Environment A) (sizes : List ℕ) (r : Record A) → Fits e r → length e.places ≡ 16 → length sizes ≡ 16
    → AreSizes e sizes
    → AreSizes (learn e r) (sizes_after sizes r)
sizes_next e sizes (Define d) fits long same h =
    value_defined message_size 0 e sizes d (body_length d) fits.local long same
    (message_size_is (defined_by e d) (length-map (dev_defs d.dev) (dev_code e))) h
sizes_next e sizes (Data v) fits long same h =
    value_described message_size 0 e (option_and_then (λ p. description p.definition v) (defined_at e v.local)) sizes h

long_set : {T : Type 0} (b : Bool) (values : List T) (k : ℕ) (value : T) → length (cond b (set values k value) values) ≡ length values
long_set true values k value = length-set values k value
long_set false values k value = refl

pub long_after : {A : Type 0} (orders : List Order) (r : Record A) → length (orders_after orders r) ≡ length orders
long_after orders (Define d) = long_set (ltb d.local 16) orders d.local d.order
long_after orders (Data v) = refl

pub sizes_long : {A : Type 0} (sizes : List ℕ) (r : Record A) → length (sizes_after sizes r) ≡ length sizes
sizes_long sizes (Define d) = long_set (ltb d.local 16) sizes d.local (body_length d)
sizes_long sizes (Data v) = refl
