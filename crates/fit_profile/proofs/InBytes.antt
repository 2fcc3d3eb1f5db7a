-- The first field of a number in the bytes of a message.
use Rattle.fit_profile.proofs.Common.{◌≡◌, ◌∙◌, ℕ, ◌<◌, ◌+◌, List, length, take, drop, drop-cons, get_or, add-one, ap, sym, refl, ne_eqb, arith, suc, Option}
use Rattle.fit_profile.proofs.Common.{option_and_then}
use Rattle.fit_profile.proofs.Common.{FieldDef, Items, first_field}
use Rattle.std.proofs.lemmas.List.{take-take}
use Rattle.std.proofs.lemmas.List.Sums.{sum_by-cons}
use Rattle.std.specs.Global.{Global}
use Rattle.fit_base.specs.declared.number.Order.{Order}
use Rattle.fit_base.specs.Numbers.{number}
use Rattle.fit_record.specs.ReadMessages.{field_from, fields_from}
use Rattle.fit_record.proofs.Gathering.{fields_front}
use Rattle.fit_record.specs.MessageBytes.{message_in}
use Rattle.fit_record.specs.declared.message_bytes.MessageBytes.{MessageBytes}
use Rattle.fit_record.specs.Records.{sizes, layout}
use Rattle.fit_profile.specs.Times.{time_in_field, valid_time, field_time}
use Rattle.fit_profile.specs.inner.InBytes.{shapes}
use Rattle.fit_profile.specs.inner.Plans.{time_of_fields}

-- the items of a field whose bytes begin these
abbrev pub items_at : {A : Type 0} → Order → FieldDef → List ℕ → Items A
items_at o f bytes = field_from o (f.code, f.size) (take f.size bytes)

-- the first field of this number, in the bytes of fields
abbrev pub first_in : {A : Type 0} → Order → List FieldDef → List ℕ → ℕ → Option (FieldDef × Items A)
first_in o fields bytes number = first_field fields (fields_from o (shapes fields) bytes) number

pub passed : {A : Type 0} (o : Order) (fields : List FieldDef) (bytes : List ℕ) (number i : ℕ) (d : FieldDef) → i < length fields
    → ((get_or fields i d).number ≡ number → ⊥)
    → first_in {A = A} o (drop i fields) bytes number ≡ first_in o (drop (i + 1) fields) (drop (get_or fields i d).size bytes) number
passed o fields bytes number i d h e =
    ap (λ fs. first_in o fs bytes number) (drop-cons fields i d h) ∙ rw (ne_eqb (get_or fields i d).number number e, add-one i) refl

pub left_sizes : (fields : List FieldDef) (i : ℕ) (d : FieldDef) → i < length fields
    → sizes (shapes (drop i fields)) ≡ (get_or fields i d).size + sizes (shapes (drop (i + 1) fields))
left_sizes fields i d h =
    let f = get_or fields i d in
    ap (λ fs. sizes (shapes fs)) (drop-cons fields i d h) ∙ sum_by-cons (λ (g : ℕ × ℕ). g.1) (f.code, f.size) (shapes (drop (suc i) fields))
    ∙ ap (λ k. f.size + sizes (shapes (drop k fields))) (sym (add-one i))

-- the time of a field of four bytes
pub time_here : (A : Type 0) (o : Order) (f : FieldDef) (bytes : List ℕ) → f.code ≡ 0x86 → f.size ≡ 4
    → time_in_field {A = A} f (items_at o f bytes) ≡ valid_time (number o (take 4 bytes))
time_here A o f bytes code size = rw (code, size) (ap (λ b. valid_time (number o b)) (take-take 4 4 bytes (omega arith)))

-- the time in the bytes of a message
pub time_of_bytes : (m : MessageBytes Global)
    → time_of_fields m.defined.now.definition.order m.defined.now.definition.fields m.body.now ≡ field_time m.defined.now.definition (message_in m)
time_of_bytes m =
    ap (λ items. option_and_then (λ f. time_in_field f.0 f.1) (first_field m.defined.now.definition.fields items 253))
    (fields_front {A = Global} m.defined.now.definition.order (layout m.defined.now) m.body.now)
