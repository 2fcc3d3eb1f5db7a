-- How many bytes a record has.
use Rattle.fit_record.proofs.Common.{◌≡◌, ℕ, suc, ◌*◌, List, [], ◌∷◌, ◌++◌, length, refl, arith, length-append, Some, None, flat_map, sum_by, sum_by-cons}
use Rattle.fit_record.proofs.Common.{sum_by-append, Items, Order, number_bytes, items_bytes, length-number_bytes, length-items_bytes, FieldDef, DevDef}
use Rattle.fit_record.proofs.Common.{MessageDef, Defined, architecture, field_bytes, dev_field_bytes, dev_part, definition_bytes, layout, dev_layout}
use Rattle.fit_record.proofs.Common.{message_size, HaveShape, data_bytes, DataFits, dev_length, definition_length, Option, Values, ◌+◌, sym, ◌∙◌, subst, Result}
use Rattle.fit_record.proofs.Common.{IfOk, IsSomeAnd, option_map, unwrap_or, Little, Record, Define, Data, Environment, defined_at, DefinitionFits, Fits}
use Rattle.fit_record.proofs.Common.{record_bytes, body_length, IsSound, Ok, Err}
use Rattle.fit_record.proofs.EntryParts.{length-entries}
use Rattle.fit_record.proofs.MessageSizes.{message_size_is}

-- ---- definition messages

pub length-fields : (fs : List FieldDef) → length (flat_map field_bytes fs) ≡ 3 * length fs
length-fields = length-entries (λ f. f.number) (λ f. f.size) (λ f. f.code)

pub length-dev_fields : (fs : List DevDef) → length (flat_map dev_field_bytes fs) ≡ 3 * length fs
length-dev_fields = length-entries (λ f. f.number) (λ f. f.size) (λ f. f.index)

pub length-dev_part : (fs : Option (List DevDef)) → length (dev_part fs) ≡ dev_length fs
length-dev_part None = refl
length-dev_part (Some fs) = omega (arith, length-dev_fields fs)

pub length-definition : {A : Type 0} (d : MessageDef A) → suc (length (definition_bytes d)) ≡ definition_length d
length-definition d =
    let front = d.reserved ∷ architecture d.order ∷ number_bytes d.order 2 d.global in
    let fields = length d.fields ∷ flat_map field_bytes d.fields in
    omega (
      arith,
      length-append (front ++ fields) (dev_part d.dev),
      length-append front fields,
      length-number_bytes d.order 2 d.global,
      length-fields d.fields,
      length-dev_part d.dev,
    )

-- ---- data messages

pub length-items : {A : Type 0} (o : Order) (fs : List (ℕ × ℕ)) (is : List (Items A)) → HaveShape fs is
    → length (flat_map (items_bytes o) is) ≡ sum_by (λ f. f.1) fs
length-items o [] [] h = refl
length-items o (f ∷ fs) (i ∷ is) h =
    omega (
      arith,
      length-append (items_bytes o i) (flat_map (items_bytes o) is),
      length-items_bytes o f.0 f.1 i h.0,
      length-items o fs is h.1,
      sum_by-cons (λ (f : ℕ × ℕ). f.1) f fs,
    )
length-items o _ _ h = absurd h

pub length-data : {A : Type 0} (o : Order) (v : Values A) (p : Defined A) → DataFits v p → length (data_bytes o v) ≡ message_size p
length-data o v p h =
    omega (
      arith,
      length-append (flat_map (items_bytes o) v.fields) (flat_map (items_bytes o) v.dev),
      length-items o (layout p) v.fields h.fields,
      length-items o (dev_layout p) v.dev h.dev_fields,
      sum_by-append (λ (f : ℕ × ℕ). f.1) (layout p) (dev_layout p),
    )

-- ---- records that fit

pub ok_more : {T E : Type 0} {P Q : T → Type 0} (r : Result T E) → ((x : T) → P x → Q x) → IfOk r P → IfOk r Q
ok_more (Ok x) f h = f x h
ok_more (Err e) f h = tt

pub length_of_definition : {A : Type 0} (e : Environment A) (r : Record A) (d : MessageDef A) (n : ℕ) → r ≡ Define d → DefinitionFits d
    → n ≡ definition_length d
    → Fits e r × (n ≡ length (record_bytes e r))
length_of_definition e r d n is f l = subst (λ s. Fits e s × (n ≡ length (record_bytes e s))) (sym is) (f, l ∙ sym (length-definition d))

data_length : {A : Type 0} (o : Option (Defined A)) (v : Values A) (n : ℕ) → IsSomeAnd o (λ p. DataFits v p × (n ≡ 1 + body_length p.definition) × IsSound p)
    → IsSomeAnd o (DataFits v) × (n ≡ suc (length (data_bytes (unwrap_or (option_map (λ p. p.definition.order) o) Little) v)))
data_length None v n h = absurd h
data_length (Some p) v n h =
    (h.0, omega (arith, h.1, length-data p.definition.order v p h.0, message_size_is p h.2.codes))

pub length_of_data : {A : Type 0} (e : Environment A) (r : Record A) (v : Values A) (n : ℕ) → r ≡ Data v
    → IsSomeAnd (defined_at e v.local) (λ p. DataFits v p × (n ≡ 1 + body_length p.definition) × IsSound p)
    → Fits e r × (n ≡ length (record_bytes e r))
length_of_data e r v n is h = subst (λ s. Fits e s × (n ≡ length (record_bytes e s))) (sym is) (data_length (defined_at e v.local) v n h)
