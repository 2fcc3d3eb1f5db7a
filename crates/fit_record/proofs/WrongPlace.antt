-- How the first wrong place is found by going over the fields.
use Rattle.fit_record.proofs.Common.{◌≡◌, ℕ, zero, suc, ◌+◌, ◌<◌, ◌≤◌, Bool, true, false, cond, List, [], ◌∷◌, length, drop, get_or, refl, sym, ap, ◌∙◌, arith}
use Rattle.fit_record.proofs.Common.{◌↔◌, IsTrue, Some, None, ltb, ltb-true, ltb-false, slice_get, zip, slice_get_read, drop_all, length-drop, Items, HasShape}
use Rattle.fit_record.proofs.Common.{has_shape, test_of_shape, shape_of_test, is_has_shape, DevDef, HaveShape, wrong_from, map, Option}
use Rattle.fit_record.proofs.FirstOfNumber.{dropped}

pub wrong_none : {A : Type 0} (p : ℕ) (fs : List (ℕ × ℕ)) (is : List (Items A)) → HaveShape fs is → wrong_from p fs is ≡ None
wrong_none p [] [] h = refl
wrong_none p (f ∷ fs) (i ∷ is) h =
    ap (λ b. cond b (wrong_from (p + 1) fs is) (Some p)) (test_of_shape f.0 f.1 i h.0) ∙ wrong_none (p + 1) fs is h.1
wrong_none p _ _ h = absurd h

pub cond_none : {X : Type 0} (b : Bool) (rest : Option X) (x : X) → cond b rest (Some x) ≡ None → (b ≡ true) × (rest ≡ None)
cond_none true rest x h = (refl, h)
cond_none false rest x h = cc

pub none_wrong : {A : Type 0} (p : ℕ) (fs : List (ℕ × ℕ)) (is : List (Items A)) → wrong_from p fs is ≡ None → HaveShape fs is
none_wrong p [] [] h = tt
none_wrong p (f ∷ fs) (i ∷ is) h =
    let r = cond_none (has_shape f.0 f.1 i) (wrong_from (p + 1) fs is) p h in
    (shape_of_test f.0 f.1 i r.0, none_wrong (p + 1) fs is r.1)
none_wrong p _ _ h = cc

-- what the code knows of an element
pub found : {X : Type 0} (xs : List X) (k : ℕ) (x : X) → true ≡ ltb k (length xs) → x ≡ get_or xs k x → slice_get xs k ≡ Some x
found xs k x h e = slice_get_read xs (length xs) k x refl (ltb-true k (length xs) (sym h)) e

-- a field and its items, and what the code's test says of them
module _ {A : Type 0} (p k : ℕ) (fs : List (ℕ × ℕ)) (is : List (Items A)) (f : ℕ × ℕ) (i : Items A) (at : slice_get fs k ≡ Some f)
    (within : true ≡ ltb k (length is)) (read : i ≡ get_or is k i) (b : Bool) (test : IsTrue b ↔ HasShape f.0 f.1 i) where
  tested : wrong_from p (drop k fs) (drop k is) ≡ cond b (wrong_from (p + 1) (drop (k + 1) fs) (drop (k + 1) is)) (Some p)
  tested =
      ap (λ xs. wrong_from p xs (drop k is)) (dropped fs k f at) ∙ ap (wrong_from p (f ∷ drop (k + 1) fs)) (dropped is k i (found is k i within read))
      ∙ ap (λ t. cond t (wrong_from (p + 1) (drop (k + 1) fs) (drop (k + 1) is)) (Some p)) (sym (is_has_shape f.0 f.1 i b test))

  -- a field as defined
  pub pass : (q : ℕ) → q ≡ p + 1 → b ≡ true → wrong_from p (drop k fs) (drop k is) ≡ wrong_from q (drop (k + 1) fs) (drop (k + 1) is)
  pass q n h = tested ∙ rw (h, n) refl

  -- a field not as defined
  pub fail : b ≡ false → wrong_from p (drop k fs) (drop k is) ≡ Some p
  fail h = tested ∙ rw h refl

-- no items for a field
pub missing : {A : Type 0} (p k : ℕ) (fs : List (ℕ × ℕ)) (is : List (Items A)) (f : ℕ × ℕ) → slice_get fs k ≡ Some f → length is ≤ k
    → wrong_from p (drop k fs) (drop k is) ≡ Some p
missing p k fs is f e past = ap (λ xs. wrong_from p xs (drop k is)) (dropped fs k f e) ∙ ap (wrong_from p (f ∷ drop (k + 1) fs)) (drop_all k is past)

-- items for no field
too_many : {A : Type 0} (p : ℕ) (is : List (Items A)) → 0 < length is → wrong_from p [] is ≡ Some p
too_many p [] h = absurd (omega arith)
too_many p (i ∷ is) h = refl

pub surplus : {A : Type 0} (p k : ℕ) (fs : List (ℕ × ℕ)) (is : List (Items A)) → k ≡ length fs → k < length is → wrong_from p (drop k fs) (drop k is) ≡ Some p
surplus p k fs is e h =
    ap (λ xs. wrong_from p xs (drop k is)) (drop_all k fs (omega (arith, e))) ∙ too_many p (drop k is) (omega (arith, length-drop k is))

pub not_found : {X : Type 0} (xs : List X) (k : ℕ) → false ≡ ltb k (length xs) → length xs ≤ k
not_found xs k h = ltb-false k (length xs) (sym h)

-- ---- developer fields

pub dev_field_at : (codes : List ℕ) (fs : List DevDef) (k : ℕ) → length codes ≡ length fs → k < length fs
    → slice_get {X = ℕ × ℕ} (zip codes (map (λ f. f.size) fs)) k ≡ Some (get_or codes k 0, (get_or fs k (record { number = 0; size = 0; index = 0 })).size)
dev_field_at (c ∷ codes) (f ∷ fs) zero e h = refl
dev_field_at (c ∷ codes) (f ∷ fs) (suc k) e h = dev_field_at codes fs k (omega arith) (omega arith)
dev_field_at _ _ k e h = absurd (omega arith)

pub length-dev_layout : (codes : List ℕ) (fs : List DevDef) → length codes ≡ length fs → length (zip codes (map (λ f. f.size) fs)) ≡ length fs
length-dev_layout [] [] e = refl
length-dev_layout (c ∷ codes) (f ∷ fs) e = ap suc (length-dev_layout codes fs (omega arith))
length-dev_layout _ _ e = absurd (omega arith)
