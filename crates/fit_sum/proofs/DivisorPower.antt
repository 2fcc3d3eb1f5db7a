-- The divisor to a power of two has four terms, and each multiple of it leaves nothing.
use Rattle.fit_sum.proofs.Common.{◌≡◌, ℕ, zero, suc, ◌+◌, ◌*◌, ◌/◌, ◌%◌, ◌^◌, ◌<◌, refl, ap, sym, ◌∙◌, arith, bit_xor, pow-suc, shift, shifts}
use Rattle.fit_sum.proofs.ShiftsOfSums.{xor_pairs, xor_apart, shl-xor, step-double, steps-xor, steps-zero, steps-add}

-- w times x^c + x^(c-a) + x^(c-b) + 1, its highest power as bit 0
unfoldable pub multiple : ℕ → ℕ → ℕ → ℕ → ℕ
multiple a b c w = bit_xor (bit_xor w (2 ^ a * w)) (bit_xor (2 ^ b * w) (2 ^ c * w))

-- the divisor divides it
pub IsPower : ℕ → ℕ → ℕ → Type 0
IsPower a b c = shifts (suc c) (multiple a b c 1) ≡ 0

-- to the power 64: x^1024 + x^960 + x^128 + 1
pub power-64 : IsPower 64 896 1024
unfolding IsPower multiple shifts shift
power-64 = refl

-- to the power 128: x^2048 + x^1920 + x^256 + 1
pub power-128 : IsPower 128 1792 2048
unfolding IsPower multiple shifts shift
power-128 = refl

multiple-xor : (a b c x y : ℕ) → multiple a b c (bit_xor x y) ≡ bit_xor (multiple a b c x) (multiple a b c y)
unfolding multiple
multiple-xor a b c x y =
    rw (shl-xor a x y, shl-xor b x y, shl-xor c x y)
    (ap (λ t. bit_xor t (bit_xor (bit_xor (2 ^ b * x) (2 ^ b * y)) (bit_xor (2 ^ c * x) (2 ^ c * y)))) (xor_pairs x y (2 ^ a * x) (2 ^ a * y))
    ∙ ap (bit_xor (bit_xor (bit_xor x (2 ^ a * x)) (bit_xor y (2 ^ a * y)))) (xor_pairs (2 ^ b * x) (2 ^ b * y) (2 ^ c * x) (2 ^ c * y))
    ∙ xor_pairs (bit_xor x (2 ^ a * x)) (bit_xor y (2 ^ a * y)) (bit_xor (2 ^ b * x) (2 ^ c * x)) (bit_xor (2 ^ b * y) (2 ^ c * y)))

swap_double : (k w : ℕ) → 2 ^ k * (2 * w) ≡ 2 * (2 ^ k * w)
swap_double k w = grind arith

double-xor : (a b : ℕ) → 2 * bit_xor a b ≡ bit_xor (2 * a) (2 * b)
double-xor a b = shl-xor 1 a b

multiple-double : (a b c w : ℕ) → multiple a b c (2 * w) ≡ 2 * multiple a b c w
unfolding multiple
multiple-double a b c w =
    rw (
      swap_double a w,
      swap_double b w,
      swap_double c w,
      double-xor (bit_xor w (2 ^ a * w)) (bit_xor (2 ^ b * w) (2 ^ c * w)),
      double-xor w (2 ^ a * w),
      double-xor (2 ^ b * w) (2 ^ c * w),
    ) refl

-- ---- a multiple leaves nothing, by the bits of w
times_zero : (k : ℕ) → 2 ^ k * 0 ≡ 0
times_zero k = grind arith

multiple-zero : (a b c n : ℕ) → shifts n (multiple a b c 0) ≡ 0
unfolding multiple
multiple-zero a b c n = rw (times_zero a, times_zero b, times_zero c) (steps-zero n)

multiple-bit : (a b c k x : ℕ) → IsPower a b c → x < 2 → shifts (suc c + k) (multiple a b c x) ≡ 0
unfolding IsPower
multiple-bit a b c k zero is h = multiple-zero a b c (suc c + k)
multiple-bit a b c k (suc zero) is h = steps-add (suc c) k (multiple a b c 1) ∙ ap (shifts k) is ∙ steps-zero k
multiple-bit a b c k (suc (suc x)) is h = absurd (omega arith)

lowest_apart : (w : ℕ) → w ≡ bit_xor (w % 2) (2 * (w / 2))
lowest_apart w =
    let sum : w ≡ w % 2 + 2 * (w / 2) = omega arith in
    sum ∙ sym (xor_apart 1 (w % 2) (w / 2) (omega arith))

pub steps-multiple : (a b c : ℕ) → IsPower a b c → (k w : ℕ) → w < 2 ^ k → shifts (k + c) (multiple a b c w) ≡ 0
unfolding shifts
steps-multiple a b c is zero w h =
    let none : w ≡ 0 = omega arith in
    rw none (multiple-zero a b c (0 + c))
steps-multiple a b c is (suc k) w h =
    let low = w % 2 in
    let high = w / 2 in
    let count : suc k + c ≡ suc (k + c) = omega arith in
    let count' : suc (k + c) ≡ suc c + k = omega arith in
    let first : shifts (suc (k + c)) (multiple a b c (w % 2)) ≡ 0
    = ap (λ t. shifts t (multiple a b c low)) count' ∙ multiple-bit a b c k low is (omega arith) in
    let second : shifts (suc (k + c)) (multiple a b c (2 * (w / 2))) ≡ 0
    = ap (shifts (suc (k + c))) (multiple-double a b c high) ∙ ap (shifts (k + c)) (step-double (multiple a b c high))
    ∙ steps-multiple a b c is k high (omega (arith, pow-suc 2 k)) in
    ap (λ t. shifts t (multiple a b c w)) count
    ∙ ap (shifts (suc (k + c))) (ap (multiple a b c) (lowest_apart w) ∙ multiple-xor a b c low (2 * high))
    ∙ steps-xor (suc (k + c)) (multiple a b c low) (multiple a b c (2 * high))
    ∙ ap (λ t. bit_xor t (shifts (suc (k + c)) (multiple a b c (2 * high)))) first
    ∙ second
