-- The FIT checksum (section "CRC") as a division of polynomials over 0 and 1. A polynomial is the list of its
-- coefficients, that of the highest power first, and true stands for 1.
use Rattle.std.specs.Prelude.{ℕ, zero, suc, ◌+◌, ◌*◌, ◌/◌, ◌%◌, ◌==◌, Bool, true, false, not, if◌then◌else◌, List, [], ◌∷◌, ◌++◌, length, replicate, flat_map}

-- a sum over 0 and 1, which is a difference too
abbrev pub plus : Bool → Bool → Bool
plus true b = not b
plus false b = b

-- the first list with the second one added to its front
abbrev pub add_to_front : List Bool → List Bool → List Bool
add_to_front [] q = []
add_to_front (a ∷ p) [] = a ∷ p
add_to_front (a ∷ p) (b ∷ q) = plus a b ∷ add_to_front p q

-- x^16 + x^15 + x^2 + 1 without its first coefficient, that of x^16
abbrev pub divisor : List Bool
divisor = true ∷ replicate 12 false ++ true ∷ false ∷ true ∷ []

-- What n steps of the long division leave. Each step subtracts the divisor from the front where the front is 1.
-- The front is 0 then, and is left out.
abbrev pub remainder : ℕ → List Bool → List Bool
remainder zero p = p
remainder (suc n) [] = []
remainder (suc n) (true ∷ p) = remainder n (add_to_front p divisor)
remainder (suc n) (false ∷ p) = remainder n p

-- the n lowest bits of a number, the lowest first
abbrev pub low_bits : ℕ → ℕ → List Bool
low_bits zero b = []
low_bits (suc n) b = (b % 2 == 1) ∷ low_bits n (b / 2)

-- the number whose bits these are, the lowest first
abbrev pub from_bits : List Bool → ℕ
from_bits [] = 0
from_bits (b ∷ bits) = (if b then 1 else 0) + 2 * from_bits bits

-- The dividend is the bits of the bytes, each byte's lowest first, and sixteen zeros. The remainder's highest
-- coefficient is the lowest bit of the checksum.
unfoldable pub checksum : List ℕ → ℕ
checksum bytes = from_bits (remainder (8 * length bytes) (flat_map (low_bits 8) bytes ++ replicate 16 false))
