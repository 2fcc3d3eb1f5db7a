-- Entries of three bytes each, of which the second is a size, when only some of their bytes have come.
use Rattle.fit_record.proofs.Common.{◌≡◌, ℕ, zero, suc, ◌+◌, ◌-◌, ◌*◌, ◌<◌, ◌≤◌, List, [], ◌∷◌, ◌++◌, length, refl, sym, ap, ◌∙◌, lit<, arith, length-append}
use Rattle.fit_record.proofs.Common.{append_assoc, get_or, flat_map, sum_by, sum_by-cons, IsBytes, IsBytes-append, IsBytes-cons, IsBytes-none}

abbrev pub spell : {X : Type 0} → (X → ℕ) → (X → ℕ) → (X → ℕ) → X → List ℕ
spell first size last x = first x ∷ size x ∷ last x ∷ []

module _ {X : Type 0} (first size last : X → ℕ) where
  pub length-entries : (xs : List X) → length (flat_map (spell first size last) xs) ≡ 3 * length xs
  length-entries [] = refl
  length-entries (x ∷ xs) = omega (arith, length-entries xs)

  -- what the bytes that have come tell of the sizes
  sums : (xs ys : List X) (entry rest z : List ℕ) (t : ℕ) → length entry < 3 → 3 * length ys + length entry + t ≡ 3 * length xs
      → flat_map (spell first size last) xs ++ z ≡ flat_map (spell first size last) ys ++ entry ++ rest
      → (sum_by size ys + get_or entry 1 0 ≤ sum_by size xs) × (t < 2 → sum_by size xs ≡ sum_by size ys + get_or entry 1 0)
  sums [] [] [] rest z t l c e = (omega arith, λ h. refl)
  sums (x ∷ xs) [] [] rest z t l c e = (omega arith, λ h. absurd (omega arith))
  sums (x ∷ xs) [] (a ∷ []) rest z t l c e = (omega arith, λ h. absurd (omega arith))
  sums (x ∷ []) [] (a ∷ b ∷ []) rest z t l c e = let s : size x ≡ b = cc in
      (omega (arith, s, sum_by-cons size x []), λ h. omega (arith, s, sum_by-cons size x []))
  sums (x ∷ w ∷ xs) [] (a ∷ b ∷ []) rest z t l c e = let s : size x ≡ b = cc in (omega (arith, s, sum_by-cons size x (w ∷ xs)), λ h. absurd (omega arith))
  sums (x ∷ xs) (y ∷ ys) entry rest z t l c e =
      let s : size x ≡ size y = cc in
      let others : flat_map (spell first size last) xs ++ z ≡ flat_map (spell first size last) ys ++ entry ++ rest = cc in
      let r = sums xs ys entry rest z t l (omega arith) others in
      (omega (arith, s, r.0, sum_by-cons size x xs, sum_by-cons size y ys), λ h. omega (arith, s, r.1 h, sum_by-cons size x xs, sum_by-cons size y ys))
  sums _ _ _ rest z t l c e = absurd (omega arith)

  pub sizes_known : (xs ys : List X) (entry rest z : List ℕ) (t : ℕ) → length entry < 3 → 3 * length ys + length entry + t ≡ 3 * length xs
      → flat_map (spell first size last) xs ++ z ≡ flat_map (spell first size last) ys ++ entry ++ rest
      → (sum_by size ys + get_or entry 1 0 ≤ sum_by size xs) × (t < 2 → sum_by size xs ≡ sum_by size ys + get_or entry 1 0) × (length rest ≡ t + length z)
  sizes_known xs ys entry rest z t l c e =
      let r = sums xs ys entry rest z t l c e in (
        r.0,
        r.1,
        omega (
          arith,
          ap length e,
          length-append (flat_map (spell first size last) xs) z,
          length-append (flat_map (spell first size last) ys ++ entry) rest,
          length-append (flat_map (spell first size last) ys) entry,
          length-entries xs,
          length-entries ys,
        ),
      )

-- Entries that begin so, and go on with zeros, but for one size that is still open.
pub record Goes {X : Type 0} (first size last : X → ℕ) (before : List ℕ) (known count t extra : ℕ) : Type 0 where
  pub entries : List X
  pub rest : List ℕ
  pub counted : length entries ≡ count
  pub sized : sum_by size entries ≡ known + extra
  pub spelled : flat_map (spell first size last) entries ≡ before ++ rest
  pub are_bytes : IsBytes rest
  pub to_come : length rest ≡ t

module _ {X : Type 0} (first size last : X → ℕ) (make : ℕ → ℕ → ℕ → X)
    (made : (a b c : ℕ) → spell first size last (make a b c) ≡ a ∷ b ∷ c ∷ []) where
  -- an entry of which these last bytes are to come, and the entries after it
  one_more : (a b c : ℕ) (before more : List ℕ) (known k u t part extra : ℕ) → before ++ more ≡ a ∷ b ∷ c ∷ [] → IsBytes more
      → Goes first size last [] 0 k u part → b + part ≡ known + extra → length more + u ≡ t → Goes first size last before known (suc k) t extra
  one_more a b c before more known k u t part extra is are r total long =
      let x = make a b c in
      let three = made a b c in
      let size_is : size x ≡ b = cc in
      record {
        entries = x ∷ r.entries;
        rest = more ++ r.rest;
        counted = ap suc r.counted;
        sized = omega (arith, sum_by-cons size x r.entries, size_is, r.sized, total);
        spelled = (λ i. three i ++ r.spelled i) ∙ ap (λ l. l ++ r.rest) (sym is) ∙ append_assoc before more r.rest;
        are_bytes = IsBytes-append more r.rest are r.are_bytes;
        to_come = omega (arith, length-append more r.rest, r.to_come, long);
      }

  pub goes_on : (ys : List X) (entry : List ℕ) (t count extra : ℕ) → length entry < 3 → 3 * length ys + length entry + t ≡ 3 * count
      → (t < 2 → extra ≡ 0) → extra < 256
      → Goes first size last (flat_map (spell first size last) ys ++ entry) (sum_by size ys + get_or entry 1 0) count t extra
  goes_on [] [] t zero extra l c none small =
      record { entries = []; rest = []; counted = refl; sized = omega (arith, none); spelled = refl; are_bytes = IsBytes-none; to_come = omega arith }
  goes_on [] [] t (suc k) extra l c none small =
      one_more 0 extra 0 [] (0 ∷ extra ∷ 0 ∷ []) 0 k (3 * k) t 0 extra refl
      (IsBytes-cons 0 (extra ∷ 0 ∷ []) (lit< tt) (IsBytes-cons extra (0 ∷ []) small (IsBytes-cons 0 [] (lit< tt) IsBytes-none)))
      (goes_on [] [] (3 * k) k 0 l (omega arith) (λ _. refl) (lit< tt)) (omega arith) (omega arith)
  goes_on [] (a ∷ []) t (suc k) extra l c none small =
      one_more a extra 0 (a ∷ []) (extra ∷ 0 ∷ []) 0 k (3 * k) t 0 extra refl (IsBytes-cons extra (0 ∷ []) small (IsBytes-cons 0 [] (lit< tt) IsBytes-none))
      (goes_on [] [] (3 * k) k 0 (lit< tt) (omega arith) (λ _. refl) (lit< tt)) (omega arith) (omega arith)
  goes_on [] (a ∷ b ∷ []) t (suc k) extra l c none small =
      one_more a b 0 (a ∷ b ∷ []) (0 ∷ []) (0 + b) k (t - 1) t extra extra refl (IsBytes-cons 0 [] (lit< tt) IsBytes-none)
      (goes_on [] [] (t - 1) k extra (lit< tt) (omega arith) (λ h. none (omega arith)) small) (omega arith) (omega arith)
  goes_on (y ∷ ys) entry t (suc k) extra l c none small =
      let r = goes_on ys entry t k extra l (omega arith) none small in
      record {
        entries = y ∷ r.entries;
        rest = r.rest;
        counted = ap suc r.counted;
        sized = omega (arith, sum_by-cons size y r.entries, sum_by-cons size y ys, r.sized);
        spelled = ap (λ bs. first y ∷ size y ∷ last y ∷ bs) r.spelled;
        are_bytes = r.are_bytes;
        to_come = r.to_come;
      }
  goes_on _ _ t _ extra l c none small = absurd (omega arith)
