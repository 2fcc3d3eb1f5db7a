-- The counters in the bytes of a message.
use Rattle.fit_profile.proofs.Common.{◌≡◌, ◌∙◌, ℕ, zero, suc, ◌+◌, ◌*◌, ◌/◌, ◌<◌, ◌≤◌, List, ◌∷◌, length, take, drop, drop-cons, get_or, ap, ap₂}
use Rattle.fit_profile.proofs.Common.{refl, arith, Some, None, true, false, inl, inr, cases_Bool, and_parts, eq-eqb, option_and_then, if◌then◌else◌, Bool, ◌-◌}
use Rattle.fit_profile.proofs.Common.{FieldDef, first_field, number_in, number_of}
use Rattle.std.proofs.Common.{◌==◌, ◌&&◌}
use Rattle.std.proofs.Math.Nat.{div-mul-le_self, suc-mul}
use Rattle.std.proofs.lemmas.Bool.{eqb-true}
use Rattle.std.proofs.lemmas.List.{drop-take, take-take}
use Rattle.std.specs.Global.{Global}
use Rattle.fit_base.specs.BaseTypes.{item_width}
use Rattle.fit_base.specs.Numbers.{little, number}
use Rattle.fit_base.specs.declared.number.Order.{Order}
use Rattle.fit_record.specs.ReadMessages.{numbers_of}
use Rattle.fit_record.proofs.Gathering.{fields_front}
use Rattle.fit_record.specs.MessageBytes.{message_in}
use Rattle.fit_record.specs.declared.message_bytes.MessageBytes.{MessageBytes}
use Rattle.fit_record.specs.Records.{layout}
use Rattle.fit_profile.specs.declared.component.Component.{Component}
use Rattle.fit_profile.specs.inner.Counters.{counting, number_of_fields}
use Rattle.fit_profile.proofs.InBytes.{first_in, items_at}

-- the items of a field are as many and as wide as those of a component
abbrev pub has_items : Component → FieldDef → Bool
has_items c f = item_width f.code f.size == c.width && f.size / c.width == c.items

-- such items stand in the bytes of the field
pub items_within : (c : Component) (f : FieldDef) → has_items c f ≡ true → c.items * c.width ≤ f.size
items_within c f has =
    let parts = and_parts (item_width f.code f.size == c.width) (f.size / c.width == c.items) has in
    let few : f.size / c.width * c.width ≤ f.size = div-mul-le_self f.size c.width in
    rw (← eqb-true (f.size / c.width) c.items parts.1) few

many : (o : Order) (w n : ℕ) (bytes : List ℕ) → length (numbers_of o w n bytes) ≡ n
many o w zero bytes = refl
many o w (suc n) bytes = ap suc (many o w n (drop w bytes))

-- only the bytes of the numbers count
numbers_front : (o : Order) (w n more : ℕ) (bytes : List ℕ) → numbers_of o w n (take (n * w + more) bytes) ≡ numbers_of o w n bytes
numbers_front o w zero more bytes = refl
numbers_front o w (suc n) more bytes =
    let all : suc n * w + more ≡ w + (n * w + more) = let one = suc-mul n w in omega (arith, one) in
    ap (λ k. numbers_of o w (suc n) (take k bytes)) all
    ∙ ap₂ (λ a b. number o a ∷ numbers_of o w n b) (take-take w (w + (n * w + more)) bytes (omega arith)) (drop-take w (n * w + more) bytes)
    ∙ ap (λ x. number o (take w bytes) ∷ x) (numbers_front o w n more (drop w bytes))

-- items of the right shape count, others don't
with_shape : (A : Type 0) (c : Component) (w : ℕ) (bits : List ℕ) → w ≡ c.width → length bits ≡ c.items
    → number_in {A = A} c (record { width = w; bits = bits }) ≡ counting c (little bits)
with_shape A c w bits wide long = rw (eq-eqb w c.width wide, eq-eqb (length bits) c.items long) refl

without_shape : (A : Type 0) (c : Component) (w : ℕ) (bits : List ℕ) → (w == c.width && length bits == c.items) ≡ false
    → number_in {A = A} c (record { width = w; bits = bits }) ≡ None
without_shape A c w bits other = rw other refl

same_items : (A : Type 0) (c : Component) (o : Order) (f : FieldDef) (bytes : List ℕ) → has_items c f ≡ true
    → number_in {A = A} c (items_at o f bytes) ≡ counting c (little (numbers_of o c.width c.items bytes))
same_items A c o f bytes has =
    let parts = and_parts (item_width f.code f.size == c.width) (f.size / c.width == c.items) has in
    let w = item_width f.code f.size in
    let wide : w ≡ c.width = eqb-true w c.width parts.0 in
    let count : f.size / c.width ≡ c.items = eqb-true (f.size / c.width) c.items parts.1 in
    let within : c.items * c.width ≤ f.size = items_within c f has in
    let all : f.size ≡ c.items * c.width + (f.size - c.items * c.width) = omega (arith, within) in
    with_shape A c w (numbers_of o w (f.size / w) (take f.size bytes)) wide
    (many o w (f.size / w) (take f.size bytes) ∙ ap (λ k. f.size / k) wide ∙ count)
    ∙ ap (λ bits. counting c (little bits))
    (ap (λ k. numbers_of o k (f.size / k) (take f.size bytes)) wide ∙ ap (λ n. numbers_of o c.width n (take f.size bytes)) count
    ∙ ap (λ k. numbers_of o c.width c.items (take k bytes)) all ∙ numbers_front o c.width c.items (f.size - c.items * c.width) bytes)

other_items : (A : Type 0) (c : Component) (o : Order) (f : FieldDef) (bytes : List ℕ) → has_items c f ≡ false
    → number_in {A = A} c (items_at o f bytes) ≡ None
other_items A c o f bytes other =
    let w = item_width f.code f.size in
    let bits = numbers_of o w (f.size / w) (take f.size bytes) in
    without_shape A c w bits
    (elim (cases_Bool (w == c.width)) [
      | inl same ↦
          let long : length bits ≡ f.size / c.width = many o w (f.size / w) (take f.size bytes) ∙ ap (λ k. f.size / k) (eqb-true w c.width same) in
          ap (λ k. w == c.width && k == c.items) long ∙ other
      | inr narrow ↦ rw narrow refl
    ])

pub first_here : (A : Type 0) (o : Order) (fields : List FieldDef) (bytes : List ℕ) (number i : ℕ) (d : FieldDef) → i < length fields
    → (get_or fields i d).number ≡ number
    → first_in {A = A} o (drop i fields) bytes number ≡ Some (get_or fields i d, items_at o (get_or fields i d) bytes)
first_here A o fields bytes number i d h same =
    ap (λ fs. first_in o fs bytes number) (drop-cons fields i d h) ∙ rw (eq-eqb (get_or fields i d).number number same) refl

-- the first field of a component, where it counts and where it doesn't
pub counted_here : (c : Component) (o : Order) (fields : List FieldDef) (bytes : List ℕ) (i : ℕ) (d : FieldDef) → i < length fields
    → (get_or fields i d).number ≡ c.field → has_items c (get_or fields i d) ≡ true
    → option_and_then (λ f. number_in c f.1) (first_in {A = Global} o (drop i fields) bytes c.field)
    ≡ counting c (little (numbers_of o c.width c.items bytes))
counted_here c o fields bytes i d h same has =
    ap (option_and_then (λ f. number_in c f.1)) (first_here Global o fields bytes c.field i d h same)
    ∙ same_items Global c o (get_or fields i d) bytes has

pub uncounted_here : (c : Component) (o : Order) (fields : List FieldDef) (bytes : List ℕ) (i : ℕ) (d : FieldDef) → i < length fields
    → (get_or fields i d).number ≡ c.field → has_items c (get_or fields i d) ≡ false
    → option_and_then (λ f. number_in c f.1) (first_in {A = Global} o (drop i fields) bytes c.field) ≡ None
uncounted_here c o fields bytes i d h same other =
    ap (option_and_then (λ f. number_in c f.1)) (first_here Global o fields bytes c.field i d h same)
    ∙ other_items Global c o (get_or fields i d) bytes other

-- the number of a component in the bytes of a message
pub number_of_bytes : (c : Component) (m : MessageBytes Global)
    → (if m.defined.now.definition.global == 20
    then number_of_fields c m.defined.now.definition.order m.defined.now.definition.fields m.body.now else None)
    ≡ number_of c m.defined.now.definition (message_in m)
number_of_bytes c m =
    ap (λ items. if m.defined.now.definition.global == 20
    then option_and_then (λ f. number_in c f.1) (first_field m.defined.now.definition.fields items c.field) else None)
    (fields_front {A = Global} m.defined.now.definition.order (layout m.defined.now) m.body.now)
