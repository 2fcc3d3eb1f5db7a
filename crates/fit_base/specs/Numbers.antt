-- Bytes, numbers as bytes, and signed numbers (sections "Architecture" and "Base Type").
use Rattle.std.specs.Prelude.{ℕ, zero, suc, ◌+◌, ◌*◌, ◌/◌, ◌%◌, ◌^◌, ◌<◌, nat_lt, if◌then◌else◌, List, [], ◌∷◌, reverse, slice_index, ℤ, pos, ◌-ℤ◌}
use Rattle.fit_base.specs.declared.number.Order.{Order}
use Rattle.fit_base.specs.declared.number.Order.TheVariants.{Little, Big}

-- each is a whole number from 0 to 255
abbrev pub IsBytes : List ℕ → Type 0
IsBytes bytes = (i : ℕ) → slice_index bytes i < 256

-- the sum of the bytes, each times 256 to the power of its place
abbrev pub little : List ℕ → ℕ
little [] = 0
little (b ∷ bytes) = b + 256 * little bytes

-- the number that bytes spell in an order
abbrev pub number : Order → List ℕ → ℕ
number Little bytes = little bytes
number Big bytes = little (reverse bytes)

-- the lowest bytes of a number, the lowest first
abbrev pub little_bytes : ℕ → ℕ → List ℕ
little_bytes zero n = []
little_bytes (suc width) n = n % 256 ∷ little_bytes width (n / 256)

-- the bytes of a number of this width
abbrev pub number_bytes : Order → ℕ → ℕ → List ℕ
number_bytes Little width n = little_bytes width n
number_bytes Big width n = reverse (little_bytes width n)

-- Two's complement: bits below the half of 256 ^ width stand for themselves, the others for what they are less 256 ^ width.
abbrev pub twos_complement : ℕ → ℕ → ℤ
twos_complement width bits = if nat_lt (2 * bits) (256 ^ width) then pos bits else pos bits -ℤ pos (256 ^ width)
