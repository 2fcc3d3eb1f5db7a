-- The first field of a number, by the places of all numbers.
use Rattle.fit_profile.proofs.Common.{◌≡◌, ◌∙◌, ℕ, zero, suc, ◌+◌, ◌<◌, ◌≤◌, List, [], ◌∷◌, length, drop, drop-cons, get_or, add-one, ap, sym, refl, arith}
use Rattle.fit_profile.proofs.Common.{inl, inr, cases_Bool, cases_eq, eq-eqb, ne_eqb, Option, Some, None, option_and_then, slice_get}
use Rattle.fit_profile.proofs.Common.{FieldDef, Items, first_field, drop_of_length-le}
use Rattle.std.proofs.Common.{◌==◌, set, option_map}
use Rattle.std.proofs.lemmas.Grind.{get_or-set_at}
use Rattle.std.proofs.lemmas.List.{get_or-set_other}
use Rattle.std.specs.List.{list_any}
use Rattle.std.specs.Prelude.{Bool, true, false, not, slice_index_or, ◌||◌}
use Rattle.fit_profile.specs.Accumulated.{is_counter}
use Rattle.fit_profile.specs.inner.Places.{AreFieldPlaces, both_at, place_from}

pub absent : {A : Type 0} (fields : List FieldDef) (items : List (Items A)) (number from : ℕ) → place_from from fields number ≡ 0
    → first_field fields items number ≡ None
absent [] items number from e = refl
absent (f ∷ fields) [] number from e = refl
absent (f ∷ fields) (i ∷ items) number from e = elim (cases_Bool (f.number == number)) [
  | inl same ↦ let here = rw same at e in absurd (omega (arith, here))
  | inr other ↦ rw other (absent fields items number (from + 1) (rw other at e))
]

no-items : {A : Type 0} (o : Option FieldDef) → None ≡ option_and_then (λ f. option_map {U = FieldDef × Items A} (λ i. (f, i)) None) o
no-items None = refl
no-items (Some f) = refl

above : (fields : List FieldDef) (number from place : ℕ) → place_from from fields number ≡ place + 1 → from ≤ place
above [] number from place e = absurd (omega (arith, e))
above (f ∷ fields) number from place e = elim (cases_Bool (f.number == number)) [
  | inl same ↦ let here = rw same at e in omega (arith, here)
  | inr other ↦ let later = above fields number (from + 1) place (rw other at e) in omega (arith, later)
]

pub found : {A : Type 0} (fields : List FieldDef) (items : List (Items A)) (number from k : ℕ) → place_from from fields number ≡ from + k + 1
    → first_field fields items number ≡ both_at fields items k
found [] items number from k e = absurd (omega (arith, e))
found (f ∷ fields) [] number from zero e = refl
found (f ∷ fields) [] number from (suc k) e = no-items (slice_get fields k)
found (f ∷ fields) (i ∷ items) number from zero e = elim (cases_Bool (f.number == number)) [
  | inl same ↦ rw same refl
  | inr other ↦
      let next : place_from (from + 1) fields number ≡ from + 1 = let later = rw other at e in omega (arith, later) in
      let later = above fields number (from + 1) from next in
      absurd (omega (arith, later))
]
found (f ∷ fields) (i ∷ items) number from (suc k) e = elim (cases_Bool (f.number == number)) [
  | inl same ↦ let here = rw same at e in absurd (omega (arith, here))
  | inr other ↦
      let next : place_from (from + 1) fields number ≡ from + 1 + k + 1 = let later = rw other at e in omega (arith, later) in
      rw other (found fields items number (from + 1) k next)
]

-- a field before those whose places are known
pub put-before : (fields : List FieldDef) (places : List ℕ) (d : FieldDef) (place : ℕ) → place < length fields → (get_or fields place d).number < length places
    → ((n : ℕ) → n < 256 → get_or places n 0 ≡ place_from (place + 1) (drop (place + 1) fields) n)
    → (n : ℕ) → n < 256 → get_or (set places (get_or fields place d).number (place + 1)) n 0 ≡ place_from place (drop place fields) n
put-before fields places d place h within before n small =
    let f = get_or fields place d in
    let front : place_from place (drop place fields) n ≡ place_from place (f ∷ drop (place + 1) fields) n =
    ap (λ fs. place_from place fs n) (drop-cons fields place d h ∙ ap (λ k. f ∷ drop k fields) (sym (add-one place))) in
    elim (cases_eq n f.number) [
      | inl same ↦ get_or-set_at places f.number n (place + 1) 0 same within ∙ sym (front ∙ rw (eq-eqb f.number n (sym same)) refl)
      | inr other ↦ get_or-set_other places f.number n (place + 1) 0 other ∙ before n small
          ∙ sym (front ∙ rw (ne_eqb f.number n (λ e. other (sym e))) refl)
    ]

-- after the last field there is none
pub none-after : (fields : List FieldDef) (from number : ℕ) → length fields ≤ from → place_from from (drop from fields) number ≡ 0
none-after fields from number h = ap (λ fs. place_from from fs number) (drop_of_length-le fields h)

-- whether there is a field of this number
has : ℕ → List FieldDef → ℕ → Bool
has from fields number = not (place_from from fields number == 0)

has-more : (f : FieldDef) (fields : List FieldDef) (from number : ℕ) → has from (f ∷ fields) number ≡ (f.number == number || has (from + 1) fields number)
unfolding has
has-more f fields from number = elim (cases_Bool (f.number == number)) [
  | inl same ↦ let some : (from + 1 == 0) ≡ false = ne_eqb (from + 1) 0 (λ e. absurd (omega (arith, e))) in rw (same, some) refl
  | inr other ↦ rw other refl
]

shuffled : (a b c x y z : Bool) → ((a || b || c) || (x || y || z)) ≡ ((a || x) || (b || y) || (c || z))
shuffled true b c x y z = refl
shuffled false true c true y z = refl
shuffled false true c false y z = refl
shuffled false false true true y z = refl
shuffled false false true false true z = refl
shuffled false false true false false z = refl
shuffled false false false x y z = refl

counted : (fields : List FieldDef) (from : ℕ)
    → list_any (λ f. is_counter f.number) fields ≡ (has from fields 8 || has from fields 18 || has from fields 28)
unfolding has
counted [] from = refl
counted (f ∷ fields) from =
    rw (has-more f fields from 8, has-more f fields from 18, has-more f fields from 28, counted fields (from + 1))
    (shuffled (f.number == 8) (f.number == 18) (f.number == 28) (has (from + 1) fields 8) (has (from + 1) fields 18) (has (from + 1) fields 28))

-- whether there are counters, by the places of all numbers
pub counters-placed : (places : List ℕ) (fields : List FieldDef) → AreFieldPlaces places fields
    → list_any (λ f. is_counter f.number) fields
    ≡ (not (slice_index_or places 8 0 == 0) || not (slice_index_or places 18 0 == 0) || not (slice_index_or places 28 0 == 0))
unfolding has
counters-placed places fields placed =
    rw (placed 8 (omega arith), placed 18 (omega arith), placed 28 (omega arith)) (counted fields 0)
