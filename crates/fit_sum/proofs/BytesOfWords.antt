-- Bytes and words as numbers: how a list of bytes and its words agree.
use Rattle.fit_sum.proofs.Common.{◌≡◌, ℕ, zero, suc, ◌+◌, ◌*◌, ◌^◌, ◌<◌, ◌≤◌, List, [], ◌∷◌, ◌++◌, length, take, drop, get_or, refl, ap, sym, ◌∙◌, arith}
use Rattle.fit_sum.proofs.Common.{drop-drop, take-add, subst, add-one, drop-cons, bit_xor, xor_assoc, xor_zero_l, pow-suc, xor_lt, take_all, AllBytes}
use Rattle.fit_sum.proofs.Common.{bytes_number, words_from, mix}
use Rattle.fit_sum.proofs.ShiftsOfSums.{xor_pairs, xor_apart, shl-xor}
use Rattle.fit_sum.proofs.TurnsAreShifts.{IsWords, joined}

-- ---- eight bytes
one_at : (k i : ℕ) (bytes : List ℕ) → i < length bytes → take (suc k) (drop i bytes) ≡ get_or bytes i 0 ∷ take k (drop (i + 1) bytes)
one_at k i bytes h = rw (add-one, drop-cons bytes i 0) refl

pub eight_at : (i : ℕ) (bytes : List ℕ) → i + 8 ≤ length bytes
    → take 8 (drop i bytes)
    ≡ get_or bytes i 0 ∷ get_or bytes (i + 1) 0 ∷ get_or bytes (i + 2) 0 ∷ get_or bytes (i + 3) 0 ∷ get_or bytes (i + 4) 0 ∷ get_or bytes (i + 5) 0
    ∷ get_or bytes (i + 6) 0 ∷ get_or bytes (i + 7) 0 ∷ []
eight_at i bytes h =
    one_at 7 i bytes (omega arith)
    ∙ ap (λ t. get_or bytes i 0 ∷ t) (next 6 1 2 (omega arith) (omega arith)
    ∙ ap (λ t. get_or bytes (i + 1) 0 ∷ t) (next 5 2 3 (omega arith) (omega arith)
    ∙ ap (λ t. get_or bytes (i + 2) 0 ∷ t) (next 4 3 4 (omega arith) (omega arith)
    ∙ ap (λ t. get_or bytes (i + 3) 0 ∷ t) (next 3 4 5 (omega arith) (omega arith)
    ∙ ap (λ t. get_or bytes (i + 4) 0 ∷ t) (next 2 5 6 (omega arith) (omega arith)
    ∙ ap (λ t. get_or bytes (i + 5) 0 ∷ t) (next 1 6 7 (omega arith) (omega arith)
    ∙ ap (λ t. get_or bytes (i + 6) 0 ∷ t) (one_at 0 (i + 7) bytes (omega arith))))))))
  where
    next : (k a b : ℕ) → i + a + 1 ≡ i + b → i + a < length bytes → take (suc k) (drop (i + a) bytes) ≡ get_or bytes (i + a) 0 ∷ take k (drop (i + b) bytes)
    next k a b e within = one_at k (i + a) bytes within ∙ ap (λ t. get_or bytes (i + a) 0 ∷ take k (drop t bytes)) e

length-eight : (i : ℕ) (bytes : List ℕ) → i + 8 ≤ length bytes → length (take 8 (drop i bytes)) ≡ 8
length-eight i bytes h = rw (eight_at i bytes h) refl

pub number-eight : (a b c d e f g h : ℕ)
    → bytes_number (a ∷ b ∷ c ∷ d ∷ e ∷ f ∷ g ∷ h ∷ []) ≡ a + b * 256 + c * 256 ^ 2 + d * 256 ^ 3 + e * 256 ^ 4 + f * 256 ^ 5 + g * 256 ^ 6 + h * 256 ^ 7
unfolding bytes_number
number-eight a b c d e f g h = omega arith

-- ---- the number of some bytes
pub number-none : bytes_number [] ≡ 0
unfolding bytes_number
number-none = refl

below_plus : (b n p : ℕ) → b < 256 → n < p → b + 2 ^ 8 * n < 2 ^ 8 * p
below_plus b n p h k = omega arith

number-below : (bytes : List ℕ) → AllBytes bytes → bytes_number bytes < (2 ^ 8) ^ length bytes
unfolding bytes_number
number-below [] h = omega arith
number-below (b ∷ bytes) h =
    let e : (2 ^ 8) ^ suc (length bytes) ≡ 2 ^ 8 * (2 ^ 8) ^ length bytes = rw pow-suc (omega arith) in
    rw e (below_plus b (bytes_number bytes) ((2 ^ 8) ^ length bytes) h.0 (number-below bytes h.1))

pub number-append : (xs ys : List ℕ) → bytes_number (xs ++ ys) ≡ bytes_number xs + (2 ^ 8) ^ length xs * bytes_number ys
unfolding bytes_number
number-append [] ys = omega arith
number-append (x ∷ xs) ys =
    let e : (2 ^ 8) ^ suc (length xs) * bytes_number ys ≡ 2 ^ 8 * ((2 ^ 8) ^ length xs * bytes_number ys) = rw pow-suc (omega arith) in
    omega (arith, e, number-append xs ys)

pub number-apart : (xs ys : List ℕ) → AllBytes xs → bytes_number (xs ++ ys) ≡ bit_xor (bytes_number xs) ((2 ^ 8) ^ length xs * bytes_number ys)
unfolding bytes_number
number-apart [] ys h = sym (xor_zero_l (1 * bytes_number ys) ∙ omega arith)
number-apart (x ∷ xs) ys h =
    let n = (2 ^ 8) ^ length xs * bytes_number ys in
    let e : (2 ^ 8) ^ suc (length xs) * bytes_number ys ≡ 2 ^ 8 * ((2 ^ 8) ^ length xs * bytes_number ys) = rw pow-suc (omega arith) in
    rw (number-apart xs ys h.1, e, ← xor_apart 8 x (bit_xor (bytes_number xs) n) h.0, ← xor_apart 8 x (bytes_number xs) h.0, shl-xor 8 (bytes_number xs) n)
    (sym (xor_assoc x (2 ^ 8 * bytes_number xs) (2 ^ 8 * n)))

-- ---- the words of some bytes
IsBytes-take : (n : ℕ) (bytes : List ℕ) → AllBytes bytes → AllBytes (take n bytes)
IsBytes-take zero bytes h = tt
IsBytes-take (suc n) [] h = tt
IsBytes-take (suc n) (b ∷ bytes) h = (h.0, IsBytes-take n bytes h.1)

IsBytes-drop : (n : ℕ) (bytes : List ℕ) → AllBytes bytes → AllBytes (drop n bytes)
IsBytes-drop zero bytes h = h
IsBytes-drop (suc n) [] h = tt
IsBytes-drop (suc n) (b ∷ bytes) h = IsBytes-drop n bytes h.1

pub IsWords-words_from : (k i : ℕ) (bytes : List ℕ) → 8 * (i + k) ≤ length bytes → AllBytes bytes → IsWords (words_from i k bytes)
unfolding words_from
IsWords-words_from zero i bytes h p = tt
IsWords-words_from (suc k) i bytes h p =
    let eight = take 8 (drop (8 * i) bytes) in
    let below = number-below eight (IsBytes-take 8 (drop (8 * i) bytes) (IsBytes-drop (8 * i) bytes p)) in
    (subst (λ n. bytes_number eight < (2 ^ 8) ^ n) (length-eight (8 * i) bytes (omega arith)) below, IsWords-words_from k (suc i) bytes (omega arith) p)

pub length-words_from : (k i : ℕ) (bytes : List ℕ) → length (words_from i k bytes) ≡ k
unfolding words_from
length-words_from zero i bytes = refl
length-words_from (suc k) i bytes = ap suc (length-words_from k (suc i) bytes)

joined-words_from : (k i : ℕ) (bytes : List ℕ) → 8 * (i + k) ≤ length bytes → joined (words_from i k bytes) ≡ bytes_number (take (8 * k) (drop (8 * i) bytes))
unfolding words_from joined
joined-words_from zero i bytes h = sym number-none
joined-words_from (suc k) i bytes h =
    let rest = drop (8 * i) bytes in
    let eight = take 8 rest in
    let others = take (8 * k) (drop 8 rest) in
    let count : 8 * suc k ≡ 8 + 8 * k = omega arith in
    let place : 8 * suc i ≡ 8 * i + 8 = omega arith in
    let there : drop (8 * suc i) bytes ≡ drop 8 (drop (8 * i) bytes) = ap (λ n. drop n bytes) place ∙ sym (drop-drop 8 (8 * i) bytes) in
    let sum : bytes_number (take 8 (drop (8 * i) bytes) ++ take (8 * k) (drop 8 (drop (8 * i) bytes)))
    ≡ bytes_number (take 8 (drop (8 * i) bytes)) + 2 ^ 64 * bytes_number (take (8 * k) (drop 8 (drop (8 * i) bytes)))
    = number-append eight others ∙ ap (λ n. bytes_number eight + (2 ^ 8) ^ n * bytes_number others) (length-eight (8 * i) bytes (omega arith)) in
    ap (λ n. bytes_number eight + 2 ^ 64 * n) (joined-words_from k (suc i) bytes (omega arith) ∙ ap (λ t. bytes_number (take (8 * k) t)) there)
    ∙ sym sum
    ∙ ap bytes_number (sym (take-add 8 (8 * k) rest))
    ∙ ap (λ n. bytes_number (take n rest)) (sym count)

-- all words of a block
pub joined-block : (count : ℕ) (block : List ℕ) → length block ≡ 8 * count → joined (words_from 0 count block) ≡ bytes_number block
joined-block count block n =
    let all : length block ≤ 8 * count = omega (arith, n) in
    joined-words_from count 0 block (omega (arith, n)) ∙ ap bytes_number (take_all (8 * count) block all)

-- ---- words added to words
pub joined-mix : (xs ys : List ℕ) → length xs ≡ length ys → IsWords xs → IsWords ys → joined (mix xs ys) ≡ bit_xor (joined xs) (joined ys)
unfolding joined mix
joined-mix [] [] n p q = refl
joined-mix [] (y ∷ ys) n p q = absurd (omega arith)
joined-mix (x ∷ xs) [] n p q = absurd (omega arith)
joined-mix (x ∷ xs) (y ∷ ys) n p q =
    let same : length xs ≡ length ys = omega arith in
    rw (
      joined-mix xs ys same p.1 q.1,
      ← xor_apart 64 (bit_xor x y) (bit_xor (joined xs) (joined ys)) (xor_lt 64 x y p.0 q.0),
      ← xor_apart 64 x (joined xs) p.0,
      ← xor_apart 64 y (joined ys) q.0,
      shl-xor 64 (joined xs) (joined ys),
    )
    (xor_pairs x y (2 ^ 64 * joined xs) (2 ^ 64 * joined ys))

pub IsWords-mix : (xs ys : List ℕ) → IsWords xs → IsWords ys → IsWords (mix xs ys)
unfolding mix
IsWords-mix [] ys p q = tt
IsWords-mix (x ∷ xs) [] p q = tt
IsWords-mix (x ∷ xs) (y ∷ ys) p q = (xor_lt 64 x y p.0 q.0, IsWords-mix xs ys p.1 q.1)

pub length-mix : (xs ys : List ℕ) → length xs ≡ length ys → length (mix xs ys) ≡ length xs
unfolding mix
length-mix [] ys n = refl
length-mix (x ∷ xs) [] n = absurd (omega arith)
length-mix (x ∷ xs) (y ∷ ys) n = ap suc (length-mix xs ys (omega arith))
