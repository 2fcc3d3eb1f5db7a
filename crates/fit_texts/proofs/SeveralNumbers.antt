-- Numbers put one after another, with a bar between one and the next.
use Rattle.fit_texts.proofs.Common.{◌≡◌, ◌∙◌, ◌+◌, ◌%◌, ◌++◌, ◌∷◌, [], inl, inr, zero}
use Rattle.fit_texts.proofs.Common.{suc, map, take, drop, flat_map, refl, sym, ap, add-one, append_assoc, Order}
use Rattle.std.proofs.Common.{ℕ, List}
use Rattle.std.proofs.lemmas.List.{append-nil}
use Rattle.fit_base.specs.Numbers.{number}
use Rattle.fit_cells.specs.Cells.{barred}
use Rattle.fit_cells.specs.Forms.{IsSmallForm}
use Rattle.fit_cells.specs.Steps.{bar}
use Rattle.fit_cells.specs.declared.form.NumberForm.{NumberForm}
use Rattle.fit_record.specs.ReadMessages.{numbers_of}

-- texts that come after that many others
abbrev pub barred_from : ℕ → List (List ℕ) → List ℕ
barred_from zero texts = barred texts
barred_from (suc place) texts = flat_map (λ t. 124 ∷ t) texts

first : (place : ℕ) (text : List ℕ) (texts : List (List ℕ)) → barred_from place (text ∷ texts) ≡ (bar place ++ text) ++ barred_from (suc place) texts
first zero text texts = refl
first (suc place) text texts = refl

none : (place : ℕ) → barred_from place [] ≡ []
none zero = refl
none (suc place) = refl

-- one number more is put
pub number_put : (item : ℕ → List ℕ) (o : Order) (w place n m : ℕ) (rest old new whole : List ℕ) → n ≡ suc m
    → new ≡ old ++ (bar place ++ item (number o (take w rest)))
    → old ++ barred_from place (map item (numbers_of o w n rest)) ≡ whole
    → new ++ barred_from (place + 1) (map item (numbers_of o w m (drop w rest))) ≡ whole
number_put item o w place n m rest old new whole more put told =
    let text = item (number o (take w rest)) in
    let texts = map item (numbers_of o w m (drop w rest)) in
    let after = barred_from (suc place) texts in
    let next : place + 1 ≡ suc place = add-one place in
    ap (λ k. new ++ barred_from k texts) next ∙ ap (λ t. t ++ after) put ∙ append_assoc old (bar place ++ text) after
    ∙ ap (λ t. old ++ t) (sym (first place text texts)) ∙ ap (λ k. old ++ barred_from place (map item (numbers_of o w k rest))) (sym more) ∙ told

-- all of them are put
pub numbers_put : (item : ℕ → List ℕ) (o : Order) (w place n : ℕ) (rest text whole : List ℕ) → n ≡ 0
    → text ++ barred_from place (map item (numbers_of o w n rest)) ≡ whole → text ≡ whole
numbers_put item o w place n rest text whole none_left told =
    sym (ap (λ k. text ++ barred_from place (map item (numbers_of o w k rest))) none_left ∙ ap (λ t. text ++ t) (none place) ∙ append-nil text) ∙ told

-- a number that is as wide as its field fills it
pub lone_fills : (size : ℕ) (f : NumberForm) → IsSmallForm f → f.width ≡ size → size % f.width ≡ 0
lone_fills size f small same = rw (sym same) (elim small.width [
  | inl one ↦ rw one refl
  | inr (inl two) ↦ rw two refl
  | inr (inr four) ↦ rw four refl
])
