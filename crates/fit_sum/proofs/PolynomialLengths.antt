-- How long the polynomials of the division are.
use Rattle.fit_sum.proofs.Common.{◌≡◌, ℕ, zero, suc, ◌+◌, ◌*◌, Bool, true, false, List, [], ◌∷◌, ◌++◌, length, refl, ap, arith, length-append, flat_map}
use Rattle.fit_sum.proofs.Common.{add_to_front, divisor, remainder, low_bits}
use Rattle.std.specs.Prelude.{replicate}

pub length-add_to_front : (p q : List Bool) → length (add_to_front p q) ≡ length p
length-add_to_front [] q = refl
length-add_to_front (a ∷ p) [] = refl
length-add_to_front (a ∷ p) (b ∷ q) = ap suc (length-add_to_front p q)

pub length-remainder : (n k : ℕ) (p : List Bool) → length p ≡ n + k → length (remainder n p) ≡ k
length-remainder zero k p h = omega (arith, h)
length-remainder (suc n) k [] h = absurd (omega (arith, h))
length-remainder (suc n) k (true ∷ p) h = length-remainder n k (add_to_front p divisor) (omega (arith, h, length-add_to_front p divisor))
length-remainder (suc n) k (false ∷ p) h = length-remainder n k p (omega (arith, h))

length-low_bits : (n b : ℕ) → length (low_bits n b) ≡ n
length-low_bits zero b = refl
length-low_bits (suc n) b = ap suc (length-low_bits n _)

length-bits : (bytes : List ℕ) → length (flat_map (low_bits 8) bytes) ≡ 8 * length bytes
length-bits [] = refl
length-bits (b ∷ bytes) = omega (arith, length-append (low_bits 8 b) (flat_map (low_bits 8) bytes), length-low_bits 8 b, length-bits bytes)

pub length-dividend : (bytes : List ℕ) → length (flat_map (low_bits 8) bytes ++ replicate 16 false) ≡ 8 * length bytes + 16
length-dividend bytes = omega (arith, length-append (flat_map (low_bits 8) bytes) (replicate 16 false), length-bits bytes)
