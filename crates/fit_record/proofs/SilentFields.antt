-- Fields of a field description that have no bytes, and describe nothing.
use Rattle.fit_record.proofs.Common.{◌≡◌, ℕ, ◌+◌, ◌<◌, ◌≤◌, ◌==◌, false, List, [], ◌∷◌, ◌++◌, take, drop, refl, sym, ap, ◌∙◌, arith}
use Rattle.fit_record.proofs.Common.{AllByRecursion, FieldDef, None, Option, Order, ne_eqb, sizes, drop-drop, take-append-drop}
use Rattle.std.specs.Prelude.{slice_index_or}
use Rattle.fit_record.proofs.BytesOfNumbers.{shapes, passed, sizes_of}
use Rattle.fit_record.proofs.OneWalk.{IsFound, byte_of, so_far-none}
use Rattle.fit_record.specs.inner.Describing.{so_far, IsPassedBy}

pub both_silent : (fields : List FieldDef) → AllByRecursion (λ f. 3 ≤ f.number) fields → AllByRecursion (λ f. f.size ≡ 0) fields
    → AllByRecursion IsPassedBy fields
both_silent [] others empty = tt
both_silent (f ∷ fields) others empty = ((others.0, empty.0), both_silent fields others.1 empty.1)

pub all_joined : {X : Type 0} (P : X → Type 0) (xs ys : List X) → AllByRecursion P xs → AllByRecursion P ys → AllByRecursion P (xs ++ ys)
all_joined P [] ys front back = back
all_joined P (x ∷ xs) ys front back = (front.0, all_joined P xs ys front.1 back)

silent_first : (A : Type 0) (o : Order) (f : FieldDef) (fields : List FieldDef) (rest : List ℕ) (n : ℕ) → n < 3 → IsPassedBy f
    → byte_of A o (f ∷ fields) rest n ≡ byte_of A o fields rest n
silent_first A o f fields rest n few silent =
    let apart : (f.number == n) ≡ false = ne_eqb f.number n (λ same. absurd (omega (arith, silent.0, few, same))) in
    passed A o f fields rest n apart ∙ ap (λ s. byte_of A o fields (drop s rest) n) silent.1

silent_passed : (A : Type 0) (o : Order) (xs ys : List FieldDef) (rest : List ℕ) (n : ℕ) → n < 3 → AllByRecursion IsPassedBy xs
    → byte_of A o (xs ++ ys) rest n ≡ byte_of A o ys rest n
silent_passed A o [] ys rest n few all = refl
silent_passed A o (f ∷ xs) ys rest n few all = silent_first A o f (xs ++ ys) rest n few all.0 ∙ silent_passed A o xs ys rest n few all.1

silent_sizes : (xs ys : List FieldDef) → AllByRecursion IsPassedBy xs → sizes (shapes (xs ++ ys)) ≡ sizes (shapes ys)
silent_sizes [] ys all = refl
silent_sizes (f ∷ xs) ys all = omega (arith, sizes_of f (xs ++ ys), all.0.1, silent_sizes xs ys all.1)

-- Those from a place on are passed by.
module _ (fields : List FieldDef) (k m : ℕ) (all : AllByRecursion IsPassedBy (take m (drop k fields))) where
  parts : take m (drop k fields) ++ drop (k + m) fields ≡ drop k fields
  parts = ap (λ l. take m (drop k fields) ++ l) (sym (drop-drop m k fields)) ∙ take-append-drop m (drop k fields)

  pub passed_together : (A : Type 0) (o : Order) (bytes rest : List ℕ) (found : List (Option ℕ)) → IsFound A o fields bytes found (drop k fields) rest
      → IsFound A o fields bytes found (drop (k + m) fields) rest
  passed_together A o bytes rest found told n few =
      ap (so_far (slice_index_or found n None))
      (sym (silent_passed A o (take m (drop k fields)) (drop (k + m) fields) rest n few all) ∙ ap (λ l. byte_of A o l rest n) parts)
      ∙ told n few

  pub same_sizes : sizes (shapes (drop (k + m) fields)) ≡ sizes (shapes (drop k fields))
  same_sizes = sym (silent_sizes (take m (drop k fields)) (drop (k + m) fields) all) ∙ ap (λ l. sizes (shapes l)) parts

-- no field comes later
pub none_later : (A : Type 0) (o : Order) (fields later : List FieldDef) (bytes rest : List ℕ) (found : List (Option ℕ))
    → IsFound A o fields bytes found later rest → later ≡ [] → (n : ℕ) → n < 3 → slice_index_or found n None ≡ byte_of A o fields bytes n
none_later A o fields later bytes rest found told none n few =
    sym (so_far-none (slice_index_or found n None)) ∙ ap (so_far (slice_index_or found n None)) (sym (ap (λ l. byte_of A o l rest n) none)) ∙ told n few
