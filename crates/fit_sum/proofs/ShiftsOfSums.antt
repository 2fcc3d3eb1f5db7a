-- Shifts of the register go through sums, and a shift down undoes one up.
use Rattle.fit_sum.proofs.Common.{◌≡◌, ℕ, zero, suc, ◌+◌, ◌*◌, ◌/◌, ◌%◌, ◌^◌, ◌<◌, refl, ap, sym, ◌∙◌, arith, bit_xor, xor_assoc, xor_zero_l, xor_zero_r}
use Rattle.fit_sum.proofs.Common.{xor_comm, xor_shr, xor_mod, xor_block, pow_pos, shr_split, div-add-mod', mod_below, pow-suc, shift, shifts}

pub xor_pairs : (a b c d : ℕ) → bit_xor (bit_xor a b) (bit_xor c d) ≡ bit_xor (bit_xor a c) (bit_xor b d)
xor_pairs a b c d =
    xor_assoc a b (bit_xor c d)
    ∙ ap (bit_xor a) (sym (xor_assoc b c d) ∙ ap (λ t. bit_xor t d) (xor_comm b c) ∙ xor_assoc c b d)
    ∙ sym (xor_assoc a c (bit_xor b d))

-- ---- one sum of two numbers whose bits do not meet
pub xor_apart : (k r y : ℕ) → r < 2 ^ k → bit_xor r (2 ^ k * y) ≡ r + 2 ^ k * y
xor_apart k r y h =
    let pos : 0 < 2 ^ k = pow_pos k in
    let e = xor_block k 0 y r 0 h pos in
    let a : 0 * 2 ^ k + r ≡ r = omega arith in
    let b : y * 2 ^ k + 0 ≡ 2 ^ k * y = grind arith in
    let d : bit_xor 0 y * 2 ^ k + bit_xor r 0 ≡ r + 2 ^ k * y = rw (xor_zero_l y, xor_zero_r r) (grind arith) in
    ap (λ t. bit_xor t (2 ^ k * y)) (sym a) ∙ ap (bit_xor (0 * 2 ^ k + r)) (sym b) ∙ e ∙ d

-- a shift up goes through a sum
pub shl-xor : (k a b : ℕ) → 2 ^ k * bit_xor a b ≡ bit_xor (2 ^ k * a) (2 ^ k * b)
shl-xor k a b =
    let pos : 0 < 2 ^ k = pow_pos k in
    let e = xor_block k a b 0 0 pos pos in
    let l : a * 2 ^ k + 0 ≡ 2 ^ k * a = grind arith in
    let m : b * 2 ^ k + 0 ≡ 2 ^ k * b = grind arith in
    let r : bit_xor a b * 2 ^ k + bit_xor 0 0 ≡ 2 ^ k * bit_xor a b = grind arith in
    sym r ∙ sym e ∙ ap (λ t. bit_xor t (b * 2 ^ k + 0)) l ∙ ap (bit_xor (2 ^ k * a)) m

pub doubled : (n y : ℕ) → 2 ^ suc n * y ≡ 2 * (2 ^ n * y)
doubled n y = rw pow-suc (omega arith)

-- ---- steps
xor_bit_times : (r s : ℕ) → r < 2 → s < 2 → bit_xor r s * 0xA001 ≡ bit_xor (r * 0xA001) (s * 0xA001)
xor_bit_times zero zero p q = refl
xor_bit_times zero (suc zero) p q = refl
xor_bit_times (suc zero) zero p q = refl
xor_bit_times (suc zero) (suc zero) p q = refl
xor_bit_times (suc (suc r)) s p q = absurd (omega arith)
xor_bit_times r (suc (suc s)) p q = absurd (omega arith)

step-xor : (a b : ℕ) → shift (bit_xor a b) ≡ bit_xor (shift a) (shift b)
unfolding shift
step-xor a b =
    let halves = xor_shr a b 1 in
    let lowest = xor_mod a b 1 in
    let p : a % 2 < 2 = omega arith in
    let q : b % 2 < 2 = omega arith in
    let times = xor_bit_times (a % 2) (b % 2) p q in
    let pairs = xor_pairs (a / 2) (b / 2) (a % 2 * 0xA001) (b % 2 * 0xA001) in
    cc

pub steps-xor : (n a b : ℕ) → shifts n (bit_xor a b) ≡ bit_xor (shifts n a) (shifts n b)
unfolding shifts
steps-xor zero a b = refl
steps-xor (suc n) a b = rw step-xor (steps-xor n (shift a) (shift b))

pub step-double : (y : ℕ) → shift (2 * y) ≡ y
unfolding shift
step-double y =
    let half : 2 * y / 2 ≡ y = omega arith in
    let even : 2 * y % 2 ≡ 0 = omega arith in
    rw (half, even) (xor_zero_r y)

pub step-odd : (y : ℕ) → shift (1 + 2 * y) ≡ bit_xor y 0xA001
unfolding shift
step-odd y =
    let half : (1 + 2 * y) / 2 ≡ y = omega arith in
    let odd : (1 + 2 * y) % 2 ≡ 1 = omega arith in
    rw (half, odd) refl

pub steps-zero : (n : ℕ) → shifts n 0 ≡ 0
unfolding shifts shift
steps-zero zero = refl
steps-zero (suc n) = steps-zero n

pub steps-add : (m n x : ℕ) → shifts (m + n) x ≡ shifts n (shifts m x)
unfolding shifts
steps-add zero n x = let e : 0 + n ≡ n = omega arith in ap (λ t. shifts t x) e
steps-add (suc m) n x = let e : suc m + n ≡ suc (m + n) = omega arith in ap (λ t. shifts t x) e ∙ steps-add m n (shift x)

pub steps-shift : (n y : ℕ) → shifts n (2 ^ n * y) ≡ y
unfolding shifts
steps-shift zero y = omega arith
steps-shift (suc n) y = rw (doubled n y) (rw step-double (steps-shift n y))

-- n steps at once, of the n lowest bits and of the others
pub steps-parts : (n x : ℕ) → shifts n x ≡ bit_xor (x / 2 ^ n) (shifts n (x % 2 ^ n))
steps-parts n x =
    let low = x % 2 ^ n in
    let high = x / 2 ^ n in
    let below : x % 2 ^ n < 2 ^ n = mod_below x (2 ^ n) (pow_pos n) in
    let e : x ≡ x % 2 ^ n + 2 ^ n * (x / 2 ^ n) = grind (arith, shr_split n x, div-add-mod' x (2 ^ n)) in
    ap (shifts n) (e ∙ sym (xor_apart n low high below))
    ∙ steps-xor n low (2 ^ n * high)
    ∙ ap (bit_xor (shifts n low)) (steps-shift n high)
    ∙ xor_comm (shifts n low) high
