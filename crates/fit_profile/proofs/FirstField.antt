-- The first field of a number, place by place.
use Rattle.fit_profile.proofs.Common.{◌≡◌, ℕ, suc, ◌<◌, List, [], ◌∷◌, length, drop, get_or, ◌≤◌, drop_of_length-le, ap, ap₂, refl, sym, eq-eqb, ◌∙◌, add-one}
use Rattle.fit_profile.proofs.Common.{drop-cons, false, drop-drop, Some, None, inl, inr, ne_eqb, Items, FieldDef, cases_Bool}
use Rattle.fit_profile.proofs.Common.{first_items, first_field}
use Rattle.std.proofs.Common.{◌==◌}
use Rattle.std.specs.Prelude.{option_map}

pub no-items : {A : Type 0} (fields : List FieldDef) (number : ℕ) → first_field {A = A} fields [] number ≡ None
no-items [] number = refl
no-items (f ∷ fields) number = refl

pub here : {A : Type 0} (fields : List FieldDef) (items : List (Items A)) (number i : ℕ) (d : FieldDef) (x : Items A) → i < length fields
    → (get_or fields i d).number ≡ number
    → i < length items → first_field (drop i fields) (drop i items) number ≡ Some (get_or fields i d, get_or items i x)
here fields items number i d x h e l =
    ap₂ (λ fs xs. first_field fs xs number) (drop-cons fields i d h) (drop-cons items i x l) ∙ rw (eq-eqb (get_or fields i d).number number e) refl

after-other : {A : Type 0} (f : FieldDef) (fields : List FieldDef) (items : List (Items A)) (number : ℕ) → (f.number == number) ≡ false
    → first_field (f ∷ fields) items number ≡ first_field fields (drop 1 items) number
after-other f fields [] number e = sym (no-items fields number)
after-other f fields (x ∷ items) number e = rw e refl

pub past : {A : Type 0} (fields : List FieldDef) (items : List (Items A)) (number i : ℕ) (d : FieldDef) → i < length fields
    → ((get_or fields i d).number ≡ number → ⊥)
    → first_field (drop i fields) (drop i items) number ≡ first_field (drop (suc i) fields) (drop (suc i) items) number
past fields items number i d h e =
    ap (λ fs. first_field fs (drop i items) number) (drop-cons fields i d h)
    ∙ after-other (get_or fields i d) (drop (suc i) fields) (drop i items) number (ne_eqb (get_or fields i d).number number e)
    ∙ ap (λ xs. first_field (drop (suc i) fields) xs number) (drop-drop 1 i items ∙ ap (λ k. drop k items) (add-one i))

pub none-left : {A : Type 0} (fields : List FieldDef) (items : List (Items A)) (number i : ℕ) → length fields ≤ i
    → first_field (drop i fields) (drop i items) number ≡ None
none-left fields items number i h = ap (λ fs. first_field fs (drop i items) number) (drop_of_length-le fields h)

-- the items of the first field, by that field
pub items_first : {A : Type 0} (fields : List FieldDef) (items : List (Items A)) (number : ℕ)
    → first_items fields items number ≡ option_map (λ f. f.1) (first_field fields items number)
items_first [] items number = refl
items_first (f ∷ fields) [] number = refl
items_first (f ∷ fields) (i ∷ items) number = elim (cases_Bool (f.number == number)) [
  | inl found ↦ rw found refl
  | inr other ↦ rw other (items_first fields items number)
]
