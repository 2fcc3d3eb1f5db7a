-- Scaled values, and positions in degrees.
use Rattle.std.specs.Prelude.{◌≡◌, ◌⊎◌, ◌≤◌, ℕ, ◌*◌, ◌^◌, ◌==◌, ◌||◌, if◌then◌else◌, ℤ, pos, ◌-ℤ◌, ◌*ℤ◌, unsigned_abs}

-- how many decimals show each number of this scale exactly
abbrev pub decimals : ℕ → ℕ
decimals scale =
    if scale == 5 || scale == 10 then 1
    else if scale == 100 then 2
    else if scale == 1000 then 3
    else if scale == 16 then 4
    else if scale == 256 then 8
    else 0

-- the scales of the profile, and 16, that of an accumulated distance
abbrev pub IsScale : ℕ → Type 0
IsScale s = (s ≡ 1) ⊎ (s ≡ 5) ⊎ (s ≡ 10) ⊎ (s ≡ 100) ⊎ (s ≡ 1000) ⊎ (s ≡ 16) ⊎ (s ≡ 256)

-- the factors of these scales: 10 to the power of their decimals, over the scale
abbrev pub IsFactor : ℕ → Type 0
IsFactor n = (n ≡ 1) ⊎ (n ≡ 2) ⊎ (n ≡ 625) ⊎ (n ≡ 390625)

-- v, in units of the last decimal, is exactly raw / scale - offset
abbrev pub IsScaled : ℤ → ℕ → ℕ → ℤ → Type 0
IsScaled raw scale offset v = v *ℤ pos scale ≡ (raw -ℤ pos (offset * scale)) *ℤ pos (10 ^ decimals scale)

-- how far two numbers lie apart
abbrev pub apart : ℤ → ℤ → ℕ
apart a b = unsigned_abs (a -ℤ b)

-- v is the whole number nearest to n / m, and of two that are equally near the one further from zero
pub record IsNearest (v n : ℤ) (m : ℕ) : Type 0 where
  pub near : 2 * apart (v *ℤ pos m) n ≤ m
  pub away : 2 * apart (v *ℤ pos m) n ≡ m → unsigned_abs n ≤ unsigned_abs (v *ℤ pos m)

-- v, in units of the seventh decimal, is the number of degrees in that many semicircles; 2 ^ 31 semicircles are 180 degrees
abbrev pub IsDegrees : ℤ → ℤ → Type 0
IsDegrees semicircles v = IsNearest v (semicircles *ℤ pos (180 * 10 ^ 7)) (2 ^ 31)
