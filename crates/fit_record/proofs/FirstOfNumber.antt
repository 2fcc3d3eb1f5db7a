-- How the first field of a number is found by going over the fields.
use Rattle.fit_record.proofs.Common.{◌≡◌, ℕ, ◌+◌, ◌^◌, ◌<◌, ◌≤◌, true, false, cond, List, [], ◌∷◌, length, drop, get_or, refl, sym, ap, ◌∙◌, subst, arith, Some}
use Rattle.fit_record.proofs.Common.{None, slice_get, ◌==◌, drop_more, drop-drop, slice_get_within, get_or_from_slice_get, Items, HasShape, AllByRecursion}
use Rattle.fit_record.proofs.Common.{FieldDef, first_items, HaveShape, map}

no_items : {A : Type 0} (fs : List FieldDef) (n : ℕ) → first_items {A = A} fs [] n ≡ None
no_items [] n = refl
no_items (f ∷ fs) n = refl

-- from the element at a place on
pub dropped : {X : Type 0} (xs : List X) (k : ℕ) (x : X) → slice_get xs k ≡ Some x → drop k xs ≡ x ∷ drop (k + 1) xs
dropped xs k x h = drop_more xs k x (slice_get_within xs k x h) ∙ ap (λ y. y ∷ drop (k + 1) xs) (get_or_from_slice_get xs k x x h)

past_other : {A : Type 0} (f : FieldDef) (fs : List FieldDef) (is : List (Items A)) (n : ℕ) → (f.number == n) ≡ false
    → first_items (f ∷ fs) is n ≡ first_items fs (drop 1 is) n
past_other f fs [] n h = sym (no_items fs n)
past_other f fs (i ∷ is) n h = ap (λ b. cond b (Some i) (first_items fs is n)) h

pub after_other : {A : Type 0} (k : ℕ) (fs : List FieldDef) (is : List (Items A)) (n : ℕ) (f : FieldDef) → slice_get fs k ≡ Some f → (f.number == n) ≡ false
    → first_items (drop k fs) (drop k is) n ≡ first_items (drop (k + 1) fs) (drop (k + 1) is) n
after_other k fs is n f e h =
    ap (λ xs. first_items xs (drop k is) n) (dropped fs k f e) ∙ past_other f (drop (k + 1) fs) (drop k is) n h
    ∙ ap (λ ys. first_items (drop (k + 1) fs) ys n) (drop-drop 1 k is)

one_below : {A : Type 0} (i : Items A) (n : ℕ) (w size code : ℕ) → w ≡ 1 → w ≡ i.width → i.bits ≡ n ∷ [] → HasShape code size i → n < 256
one_below i n w size code o e b s =
    let below = subst (λ x. AllByRecursion (λ m. m < 256 ^ i.width) x) b s.fits in
    subst (λ x. n < 256 ^ x) (sym e ∙ o) below.0

-- an item of width 1 of a message of the right shape is a byte
pub first_below : {A : Type 0} (fs : List FieldDef) (is : List (Items A)) (n : ℕ) (i : Items A) (b : ℕ) → HaveShape (map (λ f. (f.code, f.size)) fs) is
    → first_items fs is n ≡ Some i → i.width ≡ 1 → i.bits ≡ b ∷ [] → b < 256
first_below (f ∷ fs) (j ∷ is) n i b h e w d =
    elim (f.number == n) as (λ t. cond t (Some j) (first_items fs is n) ≡ Some i → b < 256) [
      | true ↦ λ same. let a : j ≡ i = cc in one_below i b i.width f.size f.code w refl d (subst (λ x. HasShape f.code f.size x) a h.0)
      | false ↦ λ later. first_below fs is n i b h.1 later w d
    ] e
first_below _ _ n i b h e w d = cc

pub one_of : (xs : List ℕ) → 1 ≤ length xs → length xs < 2 → xs ≡ get_or xs 0 0 ∷ []
one_of (x ∷ []) h k = refl
one_of _ h k = absurd (omega arith)
