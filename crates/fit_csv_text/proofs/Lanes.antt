-- From the mask of sixteen bytes that are looked at together to the bytes before the first that is looked for.
use Rattle.std.proofs.Common.{◌≡◌, ℕ, ◌+◌, ◌-◌, ◌*◌, ◌/◌, ◌%◌, ◌^◌, ◌<◌, ◌≤◌, eqb, cond, Bool, true}
use Rattle.std.proofs.Common.{false, not, ◌||◌, List, map, length, get_or, drop, take, suc, zero, ◌++◌, append_assoc, take-append-drop}
use Rattle.std.proofs.Common.{◌∷◌, [], bit_and, replicate, Fits, w8, refl, sym, ap, ◌∙◌, subst, arith, inl, inr}
use Rattle.std.proofs.lemmas.Bool.{agree_below, agree_below_at, not-true, cases_lt}
use Rattle.std.proofs.lemmas.List.{ext_get_or, get_or-drop, get_or-take, get_or-map, length-append, length-map, length-take-le, take-append-le, take-take}
use Rattle.std.proofs.lemmas.Nat.{and_le_r}
use Rattle.std.proofs.lemmas.Simd.{map-map, mask_l-mod, length-chunk, first_set_mask_l, run_in_chunk_le}
use Rattle.std.proofs.lemmas.Simd.{run_in_chunk_fails, zip2_splat, length-zip2, put_chunk_is}
use Rattle.std.proofs.lemmas.Simd.{Each1-all, Each1-zip2, Each2-splat, SwzOk, SwzOk-from_below, swz_l, length-swz_l, get_or-swz_l_below}
use lib.Count.{count_trailing_zeros}
use lib.Lanes.{chunk, put_chunk, zip2, mask_l, top}

pub before-first : (test : ℕ → Bool) (d : List ℕ) (r : ℕ) (z : List ℕ) (f : ℕ → ℕ) → 16 ≤ length d → ((k : ℕ) → Fits w8 (get_or d k 0))
    → r ≡ cond (eqb (mask_l (map (top 7) z) % 2 ^ 64) 0) 16 (count_trailing_zeros 64 (mask_l (map (top 7) z) % 2 ^ 64))
    → z ≡ map f (take 16 d) → agree_below (λ x. top 7 (f x) || not (test x)) (λ _. true) 256 ≡ true
    → (r ≤ 16) × ((k : ℕ) → k < r → test (get_or d k 0) ≡ false)
before-first test d r z f room fits found lanes all =
    let stops : ℕ → Bool = λ x. top 7 (f x) in
    let v = chunk 0 16 d in
    let long : length v ≡ 16 = length-chunk 0 16 d room in
    let mask : mask_l (map (top 7) z) % 2 ^ 64 ≡ mask_l (map stops v) =
    ap (λ l. mask_l l % 2 ^ 64) (ap (map (top 7)) lanes ∙ map-map (top 7) f v) ∙ mask_l-mod (map stops v) 64 (omega (arith, length-map v stops, long)) in
    let counted = found ∙ ap (λ m. cond (eqb m 0) 16 (count_trailing_zeros 64 m)) mask ∙ first_set_mask_l stops v 16 long (omega arith) in (
      run_in_chunk_le stops d 0 16 r 0 room counted,
      λ k low.
          let plain = run_in_chunk_fails stops d 0 16 r 0 room counted k (omega arith) (omega arith) in
          not-true _ (sym (ap (λ b. b || not (test (get_or d k 0))) plain)
          ∙ agree_below_at (λ x. stops x || not (test x)) (λ _. true) 256 (get_or d k 0) all (fits k).fits),
    )

-- the low half of a byte
abbrev pub low_half : ℕ → ℕ
low_half x = bit_and x 15

pub halves-fit : (v : List ℕ) → length v ≡ 16 → SwzOk w8 16 16 0 (zip2 bit_and v (replicate 16 15))
halves-fit v long =
    let small = Each1-all (λ a. low_half a < 16) (λ a. omega (arith, and_le_r a 15)) v in
    SwzOk-from_below w8 16 1 16 0 (zip2 bit_and v (replicate 16 15)) refl (omega (arith, length-zip2 bit_and v (replicate 16 15) long))
    (Each1-zip2 bit_and (λ j. j < 16) v (replicate 16 15) (Each2-splat (λ a b. bit_and a b < 16) v 16 15 small))

-- a table read at the low half of each byte
pub by-low-half : (table v : List ℕ) → length v ≡ 16 → swz_l w8 16 table 0 (zip2 bit_and v (replicate 16 15)) ≡ map (λ x. get_or table (low_half x) 0) v
by-low-half table v long =
    let js = zip2 bit_and v (replicate 16 15) in
    let halves : js ≡ map low_half v = zip2_splat bit_and v 16 15 long in
    let wide : length js ≡ 16 = ap length halves ∙ length-map v low_half ∙ long in
    let at : ℕ → ℕ = λ x. get_or table (low_half x) 0 in
    ext_get_or 0 _ _ (length-swz_l w8 16 table 0 js ∙ wide ∙ sym (length-map v at ∙ long)) (λ i h.
    let within : i < length v = omega (arith, length-swz_l w8 16 table 0 js, wide, long) in
    let is : get_or js i 0 ≡ low_half (get_or v i 0) = ap (λ l. get_or l i 0) halves ∙ get_or-map low_half v i 0 0 within in
    let below : get_or js i 0 < 16 = omega (arith, is, and_le_r (get_or v i 0) 15) in
    let place : 16 * ((0 + i) / 16) + get_or js i 0 ≡ low_half (get_or v i 0) = omega (arith, is, long) in
    get_or-swz_l_below w8 16 table 0 js i (omega (arith, within, long, wide)) below ∙ ap (λ k. get_or table k 0) place
    ∙ sym (get_or-map at v i 0 0 within))

-- bytes of which none passes a test, and more after them
pub more-before : (test : ℕ → Bool) (text : List ℕ) (at n r : ℕ) → r ≤ n → ((k : ℕ) → k < r → test (get_or (take n (drop at text)) k 0) ≡ false)
    → ((k : ℕ) → k < at → test (get_or text k 0) ≡ false) → (k : ℕ) → k < at + r → test (get_or text k 0) ≡ false
more-before test text at n r short more before k low = elim (cases_lt k at) [
  | inl front ↦ before k front
  | inr back ↦
      let there : at + (k - at) ≡ k = omega arith in
      let byte : get_or (take n (drop at text)) (k - at) 0 ≡ get_or text k 0 =
      get_or-take n (drop at text) (k - at) 0 (omega arith) ∙ get_or-drop at text (k - at) 0 ∙ ap (λ j. get_or text j 0) there in
      subst (λ b. test b ≡ false) byte (more (k - at) (omega arith))
]

pub themselves : (v : List ℕ) → v ≡ map (λ x. x) v
themselves [] = refl
themselves (x ∷ v) = ap (λ (more : List ℕ). x ∷ more) (themselves v)

-- ---- sixteen bytes that are written together

take-past : (xs ys : List ℕ) (n m k : ℕ) → length xs ≡ n → k ≡ n + m → take k (xs ++ ys) ≡ xs ++ take m ys
take-past [] ys n m k long is = ap (λ j. take j ys) (omega (arith, long, is))
take-past (x ∷ xs) ys n m zero long is = absurd (omega (arith, long, is))
take-past (x ∷ xs) ys n m (suc k) long is = ap (λ (l : List ℕ). x ∷ l) (take-past xs ys (length xs) m k refl (omega (arith, long, is)))

-- of which any that aren't wanted are left out
pub lanes-put : (front mid post text : List ℕ) (at few : ℕ) → length front ≡ at → few ≤ 16 → 16 ≤ length text → 16 ≤ length mid
    → take (at + few) (front ++ (put_chunk 0 mid (take 16 text) ++ post)) ≡ front ++ take few text
lanes-put front mid post text at few long short enough room =
    let v = take 16 text in
    let wide : length v ≡ 16 = length-take-le 16 text enough in
    let rest = drop (length v) mid in
    let is : put_chunk 0 mid v ≡ v ++ rest = put_chunk_is 0 mid v (omega (arith, wide)) in
    take-past front (put_chunk 0 mid v ++ post) at few (at + few) long refl ∙ ap (λ (l : List ℕ). front ++ l)
    (take-append-le few (put_chunk 0 mid v) post (omega (arith, ap length is, length-append v rest, wide)) ∙ ap (take few) is
    ∙ take-append-le few v rest (omega (arith, wide)) ∙ take-take few 16 text short)

-- more of a text after what stands of it on a sheet
pub put-more : (front old new text : List ℕ) (at shown found n : ℕ) → found ≤ 16 → 16 ≤ n → shown ≤ length text
    → take (at + shown) old ≡ front ++ take shown text
    → ((few : ℕ) → few ≤ 16 → take ((at + shown) + few) new ≡ take (at + shown) old ++ take few (take n (drop shown text)))
    → take (at + (shown + found)) new ≡ front ++ take (shown + found) text
put-more front old new text at shown found n short enough within before more =
    let joined : take (shown + found) text ≡ take shown text ++ take found (drop shown text) =
    ap (λ (l : List ℕ). take (shown + found) l) (sym (take-append-drop shown text))
    ∙ take-past (take shown text) (drop shown text) shown found (shown + found) (length-take-le shown text within) refl in
    ap (λ k. take k new) (omega arith) ∙ more found short ∙ ap (λ (l : List ℕ). take (at + shown) old ++ l) (take-take found n (drop shown text) (omega arith))
    ∙ ap (λ (l : List ℕ). l ++ take found (drop shown text)) before ∙ append_assoc front (take shown text) (take found (drop shown text))
    ∙ ap (λ (l : List ℕ). front ++ l) (sym joined)
