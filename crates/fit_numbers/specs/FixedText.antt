-- The text of a number with a fixed number of decimals.
use Rattle.std.specs.Prelude.{◌≡◌, ◌++◌, ◌∷◌, [], ◌+◌, ◌-◌, ◌/◌, ◌%◌, ◌^◌, ◌==◌, zero, suc, ℕ, List, decimal, ℤ, pos, negsuc, neg_ℤ, ◌≤ℤ◌, unsigned_abs}
use Rattle.std.specs.Prelude.{if◌then◌else◌}

-- the last k digits of n
unfoldable pub last_digits : ℕ → ℕ → List ℕ
last_digits zero n = []
last_digits (suc k) n = (48 + n / 10 ^ k % 10) ∷ last_digits k n

-- `-` below zero
abbrev pub sign : ℤ → List ℕ
sign (pos n) = []
sign (negsuc n) = 45 ∷ []

-- the point and d digits after it, where d is above 0
abbrev pub fraction : ℕ → ℕ → List ℕ
fraction d n = if d == 0 then [] else 46 ∷ last_digits d n

-- the text of v / 10 ^ d with d decimals
abbrev pub fixed_text : ℤ → ℕ → List ℕ
fixed_text v d = sign v ++ decimal (unsigned_abs v / 10 ^ d) ++ fraction d (unsigned_abs v % 10 ^ d)

-- the range of `i128`
abbrev pub IsIn128 : ℤ → Type 0
IsIn128 v = (neg_ℤ (pos (2 ^ 127)) ≤ℤ v) × (v ≤ℤ pos (2 ^ 127 - 1))

-- ---- putting after a text

-- The old text is still the beginning of the new one.
abbrev pub StillBegins : List ℕ → List ℕ → Type 0
StillBegins old new = (rest : List ℕ) × (new ≡ old ++ rest)
