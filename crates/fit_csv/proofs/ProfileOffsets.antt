-- The offsets of the profile, and items that a row of a field shows.
use Rattle.fit_csv.proofs.Common.{◌≡◌, ◌∙◌, ◌^◌, Bool, true, refl, sym, ap, inl, inr, arith, nat_lt, find, option_and_then, list_all, Global, cases_Bool}
use Rattle.fit_csv.proofs.Common.{nat_tests, Items, HasShape, FieldDef, DevDef, Naming, TextHasOneNumber, field, field_of, message_of, Field, Meaning}
use Rattle.fit_csv.proofs.Common.{message_index, messages, timestamp, IsScale, dev_row, field_row}
use Rattle.std.proofs.Common.{ℕ, ◌<◌, ◌==◌, List, Option, Some, None}
use Rattle.std.specs.Prelude.{option_map, IfSome, if◌then◌else◌}
use Rattle.fit_profile.specs.Profile.{Message}
use Rattle.fit_cells.proofs.OneCell.{one_cell}
use Rattle.fit_csv.proofs.OneStep.{cell_at}
use Rattle.fit_texts.proofs.ProfileScales.{found, known_scale, some_same}

abbrev is_small : Meaning → Bool
is_small m = nat_lt m.offset (2 ^ 32)

small-from : (m : Meaning) → is_small m ≡ true → m.offset < 2 ^ 32
small-from m e = grind (arith, nat_tests)

abbrev all_small : Message → Bool
all_small m = list_all (λ (f : Field). is_small f.meaning) m.fields

every-small : list_all all_small messages ≡ true
every-small = refl

of-field : (fields : List Field) (number : ℕ) (m : Meaning) (o : Option Field) → find (λ f. f.number == number) fields ≡ o
    → list_all (λ f. is_small f.meaning) fields ≡ true
    → option_map (λ f. f.meaning) o ≡ Some m → is_small m ≡ true
of-field fields number m None is all e = cc e
of-field fields number m (Some f) is all e =
    ap is_small (sym (some_same f.meaning m e)) ∙ found (λ f. f.number == number) (λ f. is_small f.meaning) fields f is all

of-message : (global number : ℕ) (m : Meaning) (o : Option Message) → message_of global ≡ o
    → option_and_then (λ g. if number == 254 then Some message_index.meaning else field_of g.fields number) o ≡ Some m → is_small m ≡ true
of-message global number m None is e = cc e
of-message global number m (Some g) is e = elim (cases_Bool (number == 254)) [
  | inl index ↦ ap is_small (sym (some_same message_index.meaning m (rw index at e)))
  | inr other ↦ of-field g.fields number m (find (λ f. f.number == number) g.fields) refl (found (λ g. g.global == global) all_small messages g is every-small)
      (rw other at e)
]

-- each offset of the profile is a number of 32 bits
known-offset : (global number : ℕ) (m : Meaning) → field global number ≡ Some m → m.offset < 2 ^ 32
known-offset global number m e = small-from m (elim (cases_Bool (number == 253)) [
  | inl time ↦ ap is_small (sym (some_same timestamp.meaning m (rw time at e)))
  | inr other ↦ of-message global number m (message_of global) refl (rw other at e)
])

known-at : (global number : ℕ) (o : Option Meaning) → field global number ≡ o → IfSome o (λ m. IsScale m.scale × (m.offset < 2 ^ 32))
known-at global number None is = tt
known-at global number (Some m) is = (known_scale global number m is, known-offset global number m is)

-- a row of a field shows one list of items
pub one-field : TextHasOneNumber → (global : ℕ) (f : FieldDef) (a b : Items Global) → HasShape f.code f.size a → HasShape f.code f.size b
    → field_row global f a ≡ field_row global f b → a ≡ b
one-field law global f a b p q e =
    one_cell law f.code f.size (field global f.number) a b (known-at global f.number (field global f.number) refl) p q (ap (cell_at 2) e)

pub one-dev-field : TextHasOneNumber → (f : DevDef) (code : ℕ) (n : Naming) (a b : Items Global) → HasShape code f.size a → HasShape code f.size b
    → dev_row f code n a ≡ dev_row f code n b → a ≡ b
one-dev-field law f code n a b p q e = one_cell law code f.size None a b tt p q (ap (cell_at 2) e)
