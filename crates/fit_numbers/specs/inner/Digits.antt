-- Digits: the number that those of a text write, and a table of them. Only private contracts name these definitions.
use Rattle.std.specs.Prelude.{◌∷◌, [], ◌+◌, ◌*◌, ◌-◌, ◌/◌, ◌%◌, zero, suc, nat_lt, ℕ, List, ℤ, pos, neg_ℤ, Bool, true, false, if◌then◌else◌}
use Rattle.std.specs.Char.{is_ascii_digit}

-- the number after one more byte of a text: a digit is put at its end, another byte passed over
abbrev pub next_value : ℕ → ℕ → ℕ
next_value n b = if is_ascii_digit b then n * 10 + (b - 48) else n

-- the number that the digits of a text write when they follow those of n
unfoldable pub digits_in : ℕ → List ℕ → ℕ
digits_in n [] = n
digits_in n (b ∷ rest) = digits_in (next_value n b) rest

abbrev pub signed_value : Bool → ℕ → ℤ
signed_value true n = neg_ℤ (pos n)
signed_value false n = pos n

-- ---- the table of the numbers below 1000

-- how many of the three digits of a number are zeros in front; zero itself has one digit
abbrev pub zeros_of : ℕ → ℕ
zeros_of n = if nat_lt n 10 then 2 else if nat_lt n 100 then 1 else 0

-- the byte after that many others of the entry of a number: its three digits, and how many of them are zeros in front
abbrev pub entry_byte : ℕ → ℕ → ℕ
entry_byte zero n = 48 + n / 100
entry_byte (suc zero) n = 48 + n / 10 % 10
entry_byte (suc (suc zero)) n = 48 + n % 10
entry_byte _ n = 48 + zeros_of n

-- the byte at a place of the table
unfoldable pub triple_byte : ℕ → ℕ
triple_byte place = entry_byte (place % 4) (place / 4)
