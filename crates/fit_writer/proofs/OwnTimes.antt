-- The time of a message's own field.
use Rattle.std.proofs.Common.{◌≡◌, ℕ, zero, suc, ◌+◌, ◌*◌, ◌<◌, ◌≤◌, Bool, true, false, cond}
use Rattle.std.proofs.Common.{List, [], ◌∷◌, ◌++◌, length, map, take, drop, get_or, refl, arith, add-one}
use Rattle.std.specs.Global.{Global}
use Rattle.std.specs.List.{list_all}
use Rattle.std.specs.Prelude.{◌==◌, Some, None, option_and_then}
use Rattle.std.proofs.lemmas.Bool.{and_parts}
use Rattle.std.proofs.lemmas.Bool.Decides.{nat_tests}
use Rattle.fit_base.specs.BaseTypes.{item_width}
use Rattle.fit_base.specs.declared.items.Items.{Items}
use Rattle.fit_record.specs.declared.definition.FieldDef.{FieldDef}
use Rattle.fit_profile.specs.Looks.{first_field}
use Rattle.fit_profile.specs.Times.{time_in_field}
use Rattle.fit_from_messages.specs.Parts.{items_read}
use Rattle.fit_from_messages.specs.Slots.{SlotsFit}
use Rattle.fit_from_messages.specs.declared.slot.Slot.{Slot}
use Rattle.fit_writer.specs.inner.Forms.{FieldsFit, first_time, slot_time}

pub fields_fit : (fields : List FieldDef) (others : List (ℕ × ℕ)) (slots : List Slot)
    → SlotsFit (map (λ (f : FieldDef). (f.code, f.size)) fields ++ others) slots → FieldsFit fields slots
fields_fit [] others slots fit = tt
fields_fit (f ∷ fields) others (s ∷ slots) fit = (fit.0, fit.1, fields_fit fields others slots fit.2)
fields_fit (f ∷ fields) others [] fit = absurd fit

-- the time of the message is that of its first timestamp
pub first_is : (block : List ℕ) (fields : List FieldDef) (slots : List Slot) → FieldsFit fields slots
    → option_and_then (λ (f : FieldDef × Items Global). time_in_field f.0 f.1)
    (first_field fields (map (items_read block) (take (length fields) slots)) 253) ≡ first_time block fields slots
first_is block [] slots fit = refl
first_is block (f ∷ fields) [] fit = absurd fit
first_is block (f ∷ fields) (s ∷ slots) fit = go (first_is block fields slots fit.2) (f.number == 253)
  where
    go : option_and_then (λ (f : FieldDef × Items Global). time_in_field f.0 f.1)
        (first_field fields (map (items_read block) (take (length fields) slots)) 253) ≡ first_time block fields slots → (b : Bool)
        → option_and_then (λ (f : FieldDef × Items Global). time_in_field f.0 f.1)
        (cond b (Some (f, items_read block s)) (first_field fields (map (items_read block) (take (length fields) slots)) 253))
        ≡ cond b (slot_time block f s) (first_time block fields slots)
    go rest true = refl
    go rest false = rest

-- ---- a walk over the fields

walk : (block : List ℕ) (fields : List FieldDef) (slots : List Slot) (n : ℕ) (d : FieldDef) (e : Slot) → FieldsFit fields slots → n < length fields
    → first_time block (drop n fields) (drop n slots)
    ≡ cond ((get_or fields n d).number == 253) (slot_time block (get_or fields n d) (get_or slots n e))
    (first_time block (drop (suc n) fields) (drop (suc n) slots))
walk block [] slots n d e fit less = absurd (omega (arith, less))
walk block (f ∷ fields) [] n d e fit less = absurd fit
walk block (f ∷ fields) (s ∷ slots) zero d e fit less = refl
walk block (f ∷ fields) (s ∷ slots) (suc n) d e fit less = walk block fields slots n d e fit.2 (omega (arith, less))

pub walked : (block : List ℕ) (fields : List FieldDef) (slots : List Slot) (n : ℕ) (d : FieldDef) (e : Slot) → FieldsFit fields slots → n < length fields
    → first_time block (drop n fields) (drop n slots)
    ≡ cond ((get_or fields n d).number == 253) (slot_time block (get_or fields n d) (get_or slots n e))
    (first_time block (drop (n + 1) fields) (drop (n + 1) slots))
walked block fields slots n d e fit less = rw (add-one n) (walk block fields slots n d e fit less)

pub at_place : (fields : List FieldDef) (slots : List Slot) (n : ℕ) (d : FieldDef) (e : Slot) → FieldsFit fields slots → n < length fields
    → (n < length slots) × ((get_or slots n e).width ≡ item_width (get_or fields n d).code (get_or fields n d).size)
    × ((get_or slots n e).width * (get_or slots n e).count ≡ (get_or fields n d).size)
at_place [] slots n d e fit less = absurd (omega (arith, less))
at_place (f ∷ fields) [] n d e fit less = absurd fit
at_place (f ∷ fields) (s ∷ slots) zero d e fit less = (omega arith, fit.0, fit.1)
at_place (f ∷ fields) (s ∷ slots) (suc n) d e fit less =
    let more = at_place fields slots n d e fit.2 (omega (arith, less)) in (omega (arith, more.0), more.1, more.2)

pub stands_at : (p : Slot → Bool) (slots : List Slot) (n : ℕ) (e : Slot) → list_all p slots ≡ true → n < length slots → p (get_or slots n e) ≡ true
stands_at p [] n e all less = absurd (omega (arith, less))
stands_at p (s ∷ slots) zero e all less = (and_parts (p s) (list_all p slots) all).0
stands_at p (s ∷ slots) (suc n) e all less = stands_at p slots n e (and_parts (p s) (list_all p slots) all).1 (omega (arith, less))

pub over : (block : List ℕ) (fields : List FieldDef) (slots : List Slot) (n : ℕ) → length fields ≤ n → first_time block (drop n fields) (drop n slots) ≡ None
over block [] slots zero long = refl
over block [] slots (suc n) long = refl
over block (f ∷ fields) slots zero long = absurd (omega (arith, long))
over block (f ∷ fields) [] (suc n) long = no_slots (drop n fields)
  where
    no_slots : (fs : List FieldDef) → first_time block fs [] ≡ None
    no_slots [] = refl
    no_slots (f ∷ fs) = refl
over block (f ∷ fields) (s ∷ slots) (suc n) long = over block fields slots n (omega (arith, long))

pub not_timestamp : (n : ℕ) → (n ≡ 253 → ⊥) → (n == 253) ≡ false
not_timestamp n other = grind (arith, nat_tests)
