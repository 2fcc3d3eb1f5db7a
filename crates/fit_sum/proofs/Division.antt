-- Long division is the shifting register.
use Rattle.fit_sum.proofs.Common.{◌≡◌, ℕ, zero, suc, ◌+◌, ◌*◌, ◌/◌, ◌%◌, ◌^◌, ◌<◌, ◌≤◌, ◌==◌, Bool, true, false, List, [], ◌∷◌, ◌++◌, length, refl, ap, sym}
use Rattle.fit_sum.proofs.Common.{◌∙◌, arith, lit<, zero-add, append_assoc, flat_map, if◌then◌else◌, bit_xor, xor_assoc, xor_zero_l, xor_zero_r, xor_block}
use Rattle.fit_sum.proofs.Common.{pow-suc, add_to_front, divisor, remainder, low_bits, from_bits, checksum, shift, shifts, run, AllBytes, bytes_number}
use Rattle.std.proofs.Common.{replicate}
use Rattle.std.proofs.lemmas.Bool.Decides.{nat_tests}
use Rattle.fit_sum.proofs.ShiftsOfSums.{xor_apart, doubled, step-double, step-odd, steps-xor, steps-add, steps-shift}
use Rattle.fit_sum.proofs.PolynomialLengths.{length-add_to_front, length-dividend}

-- ---- a step of the division is a step of the register
xor_front : (a b x y : ℕ) → a < 2 → b < 2 → bit_xor (a + 2 * x) (b + 2 * y) ≡ bit_xor a b + 2 * bit_xor x y
xor_front a b x y p q =
    let e = xor_block 1 x y a b p q in
    let l : x * 2 ^ 1 + a ≡ a + 2 * x = omega arith in
    let m : y * 2 ^ 1 + b ≡ b + 2 * y = omega arith in
    let r : bit_xor x y * 2 ^ 1 + bit_xor a b ≡ bit_xor a b + 2 * bit_xor x y = omega arith in
    ap (λ t. bit_xor t (b + 2 * y)) (sym l) ∙ ap (bit_xor (x * 2 ^ 1 + a)) (sym m) ∙ e ∙ r

from_bits-add_to_front : (p q : List Bool) → length q ≤ length p → from_bits (add_to_front p q) ≡ bit_xor (from_bits p) (from_bits q)
from_bits-add_to_front [] [] h = refl
from_bits-add_to_front [] (b ∷ q) h = absurd (omega arith)
from_bits-add_to_front (a ∷ p) [] h = sym (xor_zero_r _)
from_bits-add_to_front (false ∷ p) (false ∷ q) h =
    ap (λ t. 0 + 2 * t) (from_bits-add_to_front p q (omega arith)) ∙ sym (xor_front 0 0 (from_bits p) (from_bits q) (lit< tt) (lit< tt))
from_bits-add_to_front (false ∷ p) (true ∷ q) h =
    ap (λ t. 1 + 2 * t) (from_bits-add_to_front p q (omega arith)) ∙ sym (xor_front 0 1 (from_bits p) (from_bits q) (lit< tt) (lit< tt))
from_bits-add_to_front (true ∷ p) (false ∷ q) h =
    ap (λ t. 1 + 2 * t) (from_bits-add_to_front p q (omega arith)) ∙ sym (xor_front 1 0 (from_bits p) (from_bits q) (lit< tt) (lit< tt))
from_bits-add_to_front (true ∷ p) (true ∷ q) h =
    ap (λ t. 0 + 2 * t) (from_bits-add_to_front p q (omega arith)) ∙ sym (xor_front 1 1 (from_bits p) (from_bits q) (lit< tt) (lit< tt))

from_bits-remainder : (n : ℕ) (p : List Bool) → n + 16 ≤ length p → from_bits (remainder n p) ≡ shifts n (from_bits p)
unfolding shifts
from_bits-remainder zero p h = refl
from_bits-remainder (suc n) [] h = absurd (omega arith)
from_bits-remainder (suc n) (false ∷ p) h =
    let one : shift (0 + 2 * from_bits p) ≡ from_bits p = rw (zero-add (2 * from_bits p)) (step-double (from_bits p)) in
    from_bits-remainder n p (omega arith) ∙ ap (shifts n) (sym one)
from_bits-remainder (suc n) (true ∷ p) h =
    let long : n + 16 ≤ length (add_to_front p divisor) = omega (arith, length-add_to_front p divisor) in
    let one : shift (1 + 2 * from_bits p) ≡ from_bits (add_to_front p divisor) = step-odd (from_bits p) ∙ sym (from_bits-add_to_front p divisor (omega arith))
    in
    from_bits-remainder n (add_to_front p divisor) long ∙ ap (shifts n) (sym one)

-- ---- the dividend as one number
lowest_bit : (x : ℕ) → (if (x % 2 == 1) then 1 else 0) ≡ x % 2
lowest_bit x = grind (arith, nat_tests)

from_bits-low_bits : (n x : ℕ) (rest : List Bool) → x < 2 ^ n → from_bits (low_bits n x ++ rest) ≡ x + 2 ^ n * from_bits rest
from_bits-low_bits zero x rest h = omega arith
from_bits-low_bits (suc n) x rest h =
    let half : x / 2 < 2 ^ n = omega (arith, pow-suc 2 n) in
    let parts : x % 2 + 2 * (x / 2) ≡ x = omega arith in
    omega (arith, from_bits-low_bits n (x / 2) rest half, lowest_bit x, doubled n (from_bits rest), parts)

from_bits-zeros : (n : ℕ) → from_bits (replicate n false) ≡ 0
from_bits-zeros zero = refl
from_bits-zeros (suc n) = ap (λ t. 0 + 2 * t) (from_bits-zeros n)

from_bits-bytes : (bytes : List ℕ) (zeros : List Bool) → AllBytes bytes → from_bits zeros ≡ 0
    → from_bits (flat_map (low_bits 8) bytes ++ zeros) ≡ bytes_number bytes
unfolding bytes_number
from_bits-bytes [] zeros h z = z
from_bits-bytes (b ∷ bytes) zeros h z =
    let rest = flat_map (low_bits 8) bytes in
    ap from_bits (append_assoc (low_bits 8 b) rest zeros)
    ∙ from_bits-low_bits 8 b (rest ++ zeros) h.0
    ∙ ap (λ t. b + 2 ^ 8 * t) (from_bits-bytes bytes zeros h.1 z)

-- ---- the register
pub run-steps : (register : ℕ) (bytes : List ℕ) → AllBytes bytes → run register bytes ≡ shifts (8 * length bytes) (bit_xor register (bytes_number bytes))
unfolding run bytes_number shifts
run-steps register [] h = sym (xor_zero_r register)
run-steps register (b ∷ bytes) h =
    let n = bytes_number bytes in
    let count : 8 * suc (length bytes) ≡ 8 + 8 * length bytes = omega arith in
    let apart : bit_xor register (b + 2 ^ 8 * n) ≡ bit_xor (bit_xor register b) (2 ^ 8 * n) =
    ap (bit_xor register) (sym (xor_apart 8 b n h.0)) ∙ sym (xor_assoc register b (2 ^ 8 * n)) in
    let eight : shifts 8 (bit_xor register (b + 2 ^ 8 * n)) ≡ bit_xor (shifts 8 (bit_xor register b)) n
    = ap (shifts 8) apart ∙ steps-xor 8 (bit_xor register b) (2 ^ 8 * n) ∙ ap (bit_xor (shifts 8 (bit_xor register b))) (steps-shift 8 n) in
    run-steps (shifts 8 (bit_xor register b)) bytes h.1
    ∙ ap (shifts (8 * length bytes)) (sym eight)
    ∙ sym (steps-add 8 (8 * length bytes) (bit_xor register (b + 2 ^ 8 * n)))
    ∙ ap (λ t. shifts t (bit_xor register (b + 2 ^ 8 * n))) (sym count)

-- started at 0, it ends at the remainder
pub run-checksum : (bytes : List ℕ) → AllBytes bytes → run 0 bytes ≡ checksum bytes
unfolding checksum
run-checksum bytes h =
    let n = 8 * length bytes in
    let dividend = flat_map (low_bits 8) bytes ++ replicate 16 false in
    let whole : from_bits dividend ≡ bytes_number bytes = from_bits-bytes bytes (replicate 16 false) h (from_bits-zeros 16) in
    run-steps 0 bytes h
    ∙ ap (shifts n) (xor_zero_l (bytes_number bytes) ∙ sym whole)
    ∙ sym (from_bits-remainder n dividend (omega (arith, length-dividend bytes)))

pub run-append : (register : ℕ) (xs ys : List ℕ) → run register (xs ++ ys) ≡ run (run register xs) ys
unfolding run
run-append register [] ys = refl
run-append register (x ∷ xs) ys = run-append (shifts 8 (bit_xor register x)) xs ys
