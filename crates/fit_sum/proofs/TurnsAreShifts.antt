-- The register of words: a word that is shifted out, and added in three places, leaves what 64 shifts leave.
use Rattle.fit_sum.proofs.Common.{◌≡◌, ℕ, zero, suc, ◌+◌, ◌*◌, ◌^◌, ◌<◌, lit<, List, [], ◌∷◌, ◌++◌, length, get_or, refl}
use Rattle.fit_sum.proofs.Common.{ap, sym, ◌∙◌, arith, length-append, bit_xor}
use Rattle.fit_sum.proofs.Common.{xor_assoc, xor_zero_r, xor_comm, xor_lt, pow-suc, mul_assoc, shifts, xor_into, turn, turns}
use Rattle.std.proofs.lemmas.Nat.Bits.{bit_at_xor, same_from_bits}
use Rattle.fit_sum.proofs.ShiftsOfSums.{xor_apart, shl-xor, steps-xor, steps-zero, steps-add, steps-shift}
use Rattle.fit_sum.proofs.DivisorPower.{multiple, IsPower, power-64, power-128, steps-multiple}

abbrev pub IsWords : List ℕ → Type 0
IsWords [] = Unit {0}
IsWords (w ∷ words) = (w < 2 ^ 64) × IsWords words

-- the number of some words, the lowest first
unfoldable pub joined : List ℕ → ℕ
joined [] = 0
joined (w ∷ words) = w + 2 ^ 64 * joined words

pub sixteen : (words : List ℕ) → length words ≡ 16
    → words ≡ get_or words 0 0 ∷ get_or words 1 0 ∷ get_or words 2 0 ∷ get_or words 3 0 ∷ get_or words 4 0 ∷ get_or words 5 0 ∷ get_or words 6 0
    ∷ get_or words 7 0
    ∷ get_or words 8 0 ∷ get_or words 9 0 ∷ get_or words 10 0 ∷ get_or words 11 0 ∷ get_or words 12 0 ∷ get_or words 13 0 ∷ get_or words 14 0
    ∷ get_or words 15 0 ∷ []
sixteen (a ∷ b ∷ c ∷ d ∷ e ∷ f ∷ g ∷ h ∷ i ∷ j ∷ k ∷ l ∷ m ∷ n ∷ o ∷ p ∷ []) is = refl
sixteen words is = absurd (omega arith)

-- ---- lengths and ranges
length-into : (i w : ℕ) (ys : List ℕ) → length (xor_into i w ys) ≡ length ys
unfolding xor_into
length-into i w [] = refl
length-into zero w (y ∷ ys) = refl
length-into (suc i) w (y ∷ ys) = ap suc (length-into i w ys)

length-turn : (near far w : ℕ) (ys : List ℕ) → length (turn near far w ys) ≡ suc (length ys)
unfolding turn
length-turn near far w ys = rw (length-append, length-into, length-into) (omega arith)

pub length-turns : (near far k : ℕ) (words : List ℕ) → length (turns near far k words) ≡ length words
unfolding turns
length-turns near far zero words = refl
length-turns near far (suc k) [] = refl
length-turns near far (suc k) (w ∷ ys) = length-turns near far k (turn near far w ys) ∙ length-turn near far w ys

IsWords-into : (i w : ℕ) (ys : List ℕ) → w < 2 ^ 64 → IsWords ys → IsWords (xor_into i w ys)
unfolding xor_into
IsWords-into i w [] p q = tt
IsWords-into zero w (y ∷ ys) p q = (xor_lt 64 y w q.0 p, q.1)
IsWords-into (suc i) w (y ∷ ys) p q = (q.0, IsWords-into i w ys p q.1)

IsWords-snoc : (w : ℕ) (ys : List ℕ) → w < 2 ^ 64 → IsWords ys → IsWords (ys ++ w ∷ [])
IsWords-snoc w [] p q = (p, tt)
IsWords-snoc w (y ∷ ys) p q = (q.0, IsWords-snoc w ys p q.1)

IsWords-turn : (near far w : ℕ) (ys : List ℕ) → w < 2 ^ 64 → IsWords ys → IsWords (turn near far w ys)
unfolding turn
IsWords-turn near far w ys p q =
    IsWords-snoc w (xor_into near w (xor_into far w ys)) p (IsWords-into near w (xor_into far w ys) p (IsWords-into far w ys p q))

pub IsWords-turns : (near far k : ℕ) (words : List ℕ) → IsWords words → IsWords (turns near far k words)
unfolding turns
IsWords-turns near far zero words q = q
IsWords-turns near far (suc k) [] q = tt
IsWords-turns near far (suc k) (w ∷ ys) q = IsWords-turns near far k (turn near far w ys) (IsWords-turn near far w ys q.0 q.1)

-- ---- a word added to a list of words, and one put at its end
xor_last : (a b c : ℕ) → bit_xor (bit_xor a b) c ≡ bit_xor (bit_xor a c) b
xor_last a b c = xor_assoc a b c ∙ ap (bit_xor a) (xor_comm b c) ∙ sym (xor_assoc a c b)

joined-into : (i w : ℕ) (ys : List ℕ) → i < length ys → w < 2 ^ 64 → IsWords ys → joined (xor_into i w ys) ≡ bit_xor (joined ys) ((2 ^ 64) ^ i * w)
unfolding joined xor_into
joined-into i w [] h p q = absurd (omega arith)
joined-into zero w (y ∷ ys) h p q =
    let one : (2 ^ 64) ^ 0 * w ≡ w = omega arith in
    rw (one, ← xor_apart 64 (bit_xor y w) (joined ys) (xor_lt 64 y w q.0 p), ← xor_apart 64 y (joined ys) q.0) (xor_last y w (2 ^ 64 * joined ys))
joined-into (suc i) w (y ∷ ys) h p q =
    let within : i < length ys = omega arith in
    let e : (2 ^ 64) ^ suc i * w ≡ 2 ^ 64 * ((2 ^ 64) ^ i * w) = rw pow-suc (omega arith) in
    rw (
      joined-into i w ys within p q.1,
      e,
      ← xor_apart 64 y (bit_xor (joined ys) ((2 ^ 64) ^ i * w)) q.0,
      ← xor_apart 64 y (joined ys) q.0,
      shl-xor 64 (joined ys) ((2 ^ 64) ^ i * w),
    )
    (sym (xor_assoc y (2 ^ 64 * joined ys) (2 ^ 64 * ((2 ^ 64) ^ i * w))))

joined-snoc : (w : ℕ) (ys : List ℕ) → IsWords ys → joined (ys ++ w ∷ []) ≡ bit_xor (joined ys) ((2 ^ 64) ^ length ys * w)
unfolding joined
joined-snoc w [] q = let one : w + 2 ^ 64 * 0 ≡ (2 ^ 64) ^ 0 * w = omega arith in one
joined-snoc w (y ∷ ys) q =
    let e : (2 ^ 64) ^ suc (length ys) * w ≡ 2 ^ 64 * ((2 ^ 64) ^ length ys * w) = rw pow-suc (omega arith) in
    rw (
      joined-snoc w ys q.1,
      e,
      ← xor_apart 64 y (bit_xor (joined ys) ((2 ^ 64) ^ length ys * w)) q.0,
      ← xor_apart 64 y (joined ys) q.0,
      shl-xor 64 (joined ys) ((2 ^ 64) ^ length ys * w),
    )
    (sym (xor_assoc y (2 ^ 64 * joined ys) (2 ^ 64 * ((2 ^ 64) ^ length ys * w))))

-- ---- a turn adds a multiple of the power, and shifts it down by a word
xor_cancel : (a b d e y : ℕ) → bit_xor (bit_xor a y) (bit_xor (bit_xor a b) (bit_xor d e)) ≡ bit_xor (bit_xor (bit_xor y d) b) e
xor_cancel a b d e y = same_from_bits _ _
    (λ i. rw (bit_at_xor, bit_at_xor, bit_at_xor, bit_at_xor, bit_at_xor, bit_at_xor, bit_at_xor, bit_at_xor) (omega arith))

-- what a turn of n other words adds for w
pub added : ℕ → ℕ → ℕ → ℕ → ℕ
added near far n w = bit_xor (bit_xor w (2 ^ 64 * ((2 ^ 64) ^ near * w))) (bit_xor (2 ^ 64 * ((2 ^ 64) ^ far * w)) (2 ^ 64 * ((2 ^ 64) ^ n * w)))

turn-added : (near far w : ℕ) (ys : List ℕ) → near < length ys → far < length ys → w < 2 ^ 64 → IsWords ys
    → bit_xor (joined (w ∷ ys)) (added near far (length ys) w) ≡ 2 ^ 64 * joined (turn near far w ys)
unfolding turn joined added
turn-added near far w ys near_in far_in p q =
    let zs = xor_into far w ys in
    let q' = IsWords-into far w ys p q in
    let within : near < length (xor_into far w ys) = rw (length-into far w ys) near_in in
    let first = joined-into far w ys far_in p q in
    let second = joined-into near w zs within p q' in
    let third = joined-snoc w (xor_into near w zs) (IsWords-into near w zs p q') in
    let count : length (xor_into near w (xor_into far w ys)) ≡ length ys = length-into near w zs ∙ length-into far w ys in
    rw (
      ← xor_apart 64 w (joined ys) p,
      third,
      count,
      second,
      first,
      shl-xor 64 (bit_xor (bit_xor (joined ys) ((2 ^ 64) ^ far * w)) ((2 ^ 64) ^ near * w)) ((2 ^ 64) ^ length ys * w),
      shl-xor 64 (bit_xor (joined ys) ((2 ^ 64) ^ far * w)) ((2 ^ 64) ^ near * w),
      shl-xor 64 (joined ys) ((2 ^ 64) ^ far * w),
    )
    (xor_cancel w (2 ^ 64 * ((2 ^ 64) ^ near * w)) (2 ^ 64 * ((2 ^ 64) ^ far * w)) (2 ^ 64 * ((2 ^ 64) ^ length ys * w)) (2 ^ 64 * joined ys))

-- A register of n + 1 words, in all of so many bits, that takes each word in at two of the others: what is added leaves nothing.
pub record IsRegister (near far n bits : ℕ) : Type 0 where
  pub near_in : near < n
  pub far_in : far < n
  pub words : bits ≡ suc n * 64
  pub bytes : (2 ^ 8) ^ (8 * suc n) ≡ 2 ^ bits
  pub leaves : (m w : ℕ) → w < 2 ^ 64 → shifts (64 + (bits + m)) (added near far n w) ≡ 0

leaves-none : (a b c : ℕ) → IsPower a b c → (m w : ℕ) → w < 2 ^ 64 → shifts (64 + (c + m)) (multiple a b c w) ≡ 0
leaves-none a b c is m w p =
    let count : 64 + (c + m) ≡ 64 + c + m = omega arith in
    ap (λ t. shifts t (multiple a b c w)) count
    ∙ steps-add (64 + c) m (multiple a b c w)
    ∙ ap (shifts m) (steps-multiple a b c is 64 w p)
    ∙ steps-zero m

added-64 : (w : ℕ) → added 0 13 15 w ≡ multiple 64 896 1024 w
unfolding added multiple
added-64 w =
    let e0 : 2 ^ 64 * ((2 ^ 64) ^ 0 * w) ≡ 2 ^ 64 * w = sym (mul_assoc (2 ^ 64) 1 w) in
    let e13 : 2 ^ 64 * ((2 ^ 64) ^ 13 * w) ≡ 2 ^ 896 * w = sym (mul_assoc (2 ^ 64) ((2 ^ 64) ^ 13) w) in
    let e15 : 2 ^ 64 * ((2 ^ 64) ^ 15 * w) ≡ 2 ^ 1024 * w = sym (mul_assoc (2 ^ 64) ((2 ^ 64) ^ 15) w) in
    rw (e0, e13, e15) refl

added-128 : (w : ℕ) → added 1 27 31 w ≡ multiple 128 1792 2048 w
unfolding added multiple
added-128 w =
    let e1 : 2 ^ 64 * ((2 ^ 64) ^ 1 * w) ≡ 2 ^ 128 * w = sym (mul_assoc (2 ^ 64) ((2 ^ 64) ^ 1) w) in
    let e27 : 2 ^ 64 * ((2 ^ 64) ^ 27 * w) ≡ 2 ^ 1792 * w = sym (mul_assoc (2 ^ 64) ((2 ^ 64) ^ 27) w) in
    let e31 : 2 ^ 64 * ((2 ^ 64) ^ 31 * w) ≡ 2 ^ 2048 * w = sym (mul_assoc (2 ^ 64) ((2 ^ 64) ^ 31) w) in
    rw (e1, e27, e31) refl

-- sixteen words of 64 bits
pub register-64 : IsRegister 0 13 15 1024
register-64 =
    record {
      near_in = lit< tt;
      far_in = lit< tt;
      words = refl;
      bytes = refl;
      leaves = λ m w p. ap (shifts (64 + (1024 + m))) (added-64 w) ∙ leaves-none 64 896 1024 power-64 m w p;
    }

-- sixteen words of 128 bits, each of them two words of 64
pub register-128 : IsRegister 1 27 31 2048
register-128 =
    record {
      near_in = lit< tt;
      far_in = lit< tt;
      words = refl;
      bytes = refl;
      leaves = λ m w p. ap (shifts (64 + (2048 + m))) (added-128 w) ∙ leaves-none 128 1792 2048 power-128 m w p;
    }

turn-steps : (near far n bits m w : ℕ) (ys : List ℕ) → IsRegister near far n bits → length ys ≡ n → w < 2 ^ 64 → IsWords ys
    → shifts (64 + (bits + m)) (joined (w ∷ ys)) ≡ shifts (bits + m) (joined (turn near far w ys))
turn-steps near far n bits m w ys is e p q =
    let count = 64 + (bits + m) in
    let near_in : near < length ys = omega (arith, is.near_in, e) in
    let far_in : far < length ys = omega (arith, is.far_in, e) in
    sym (xor_zero_r (shifts count (joined (w ∷ ys))))
    ∙ ap (bit_xor (shifts count (joined (w ∷ ys)))) (sym (is.leaves m w p) ∙ ap (λ k. shifts count (added near far k w)) (sym e))
    ∙ sym (steps-xor count (joined (w ∷ ys)) (added near far (length ys) w))
    ∙ ap (shifts count) (turn-added near far w ys near_in far_in p q)
    ∙ steps-add 64 (bits + m) (2 ^ 64 * joined (turn near far w ys))
    ∙ ap (shifts (bits + m)) (steps-shift 64 (joined (turn near far w ys)))

-- k words off
pub turns-steps : (near far n bits k m : ℕ) (words : List ℕ) → IsRegister near far n bits → length words ≡ suc n → IsWords words
    → shifts (k * 64 + (bits + m)) (joined words) ≡ shifts (bits + m) (joined (turns near far k words))
unfolding turns
turns-steps near far n bits zero m words is e q = let none : 0 * 64 + (bits + m) ≡ bits + m = omega arith in ap (λ t. shifts t (joined words)) none
turns-steps near far n bits (suc k) m [] is e q = absurd (omega arith)
turns-steps near far n bits (suc k) m (w ∷ ys) is e q =
    let first : suc k * 64 + (bits + m) ≡ 64 + (bits + (k * 64 + m)) = omega arith in
    let second : bits + (k * 64 + m) ≡ k * 64 + (bits + m) = omega arith in
    ap (λ t. shifts t (joined (w ∷ ys))) first
    ∙ turn-steps near far n bits (k * 64 + m) w ys is (omega arith) q.0 q.1
    ∙ ap (λ t. shifts t (joined (turn near far w ys))) second
    ∙ turns-steps near far n bits k m (turn near far w ys) is (length-turn near far w ys ∙ e) (IsWords-turn near far w ys q.0 q.1)
