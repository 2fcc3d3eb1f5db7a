-- The checksum as a register that is shifted, which is what the loops compute.
use Rattle.std.specs.Prelude.{ℕ, zero, suc, ◌≡◌, ◌*◌, ◌/◌, ◌%◌, ◌<◌, List, [], ◌∷◌, bit_xor}
use Rattle.fit_sum.specs.Checksum.{checksum}

-- One shift. Where the bit that falls off is 1, the divisor is added: 0xA001 has its bits, the lowest first.
unfoldable pub shift : ℕ → ℕ
shift x = bit_xor (x / 2) (x % 2 * 0xA001)

unfoldable pub shifts : ℕ → ℕ → ℕ
shifts zero x = x
shifts (suc n) x = shifts n (shift x)

-- what a register becomes by some bytes
unfoldable pub run : ℕ → List ℕ → ℕ
run register [] = register
run register (b ∷ bytes) = run (shifts 8 (bit_xor register b)) bytes

abbrev pub AllBytes : List ℕ → Type 0
AllBytes [] = Unit {0}
AllBytes (b ∷ bytes) = (b < 256) × AllBytes bytes

-- what a `Sum` keeps of its register and of what was added
abbrev pub IsSumOf : ℕ → List ℕ → Type 0
IsSumOf register added = AllBytes added × (register ≡ checksum added)
