-- The text of an instant, counted in seconds from 1989-12-31T00:00:00 UTC.
use Rattle.std.specs.Prelude.{◌≡◌, ◌++◌, ◌∷◌, [], ◌+◌, ◌/◌, ◌%◌, ◌<◌, ◌≤◌, ℕ, List, codes, decimal, pos, ◌+ℤ◌}
use Rattle.jiff_core.specs.Calendar.{days_from_civil, IsCivilDate}

-- two decimal digits
abbrev pub two_digits : ℕ → List ℕ
two_digits n = (48 + n / 10) ∷ (48 + n % 10) ∷ []

abbrev pub four_digits : ℕ → List ℕ
four_digits n = two_digits (n / 100) ++ two_digits (n % 100)

-- a civil date as YYYY-MM-DD
abbrev pub date_digits : ℕ → ℕ → ℕ → List ℕ
date_digits y m d = four_digits y ++ codes "-" ++ two_digits m ++ codes "-" ++ two_digits d

-- a second of the day as HH:MM:SS
abbrev pub clock_digits : ℕ → List ℕ
clock_digits s = two_digits (s / 3600) ++ codes ":" ++ two_digits (s / 60 % 60) ++ codes ":" ++ two_digits (s % 60)

-- y-m-d is the civil date that many days after 31 December 1989
abbrev pub IsDayAfterEpoch : ℕ → ℕ → ℕ → ℕ → Type 0
IsDayAfterEpoch n y m d = IsCivilDate (pos y) m d × (days_from_civil (pos y) m d ≡ days_from_civil (pos 1989) 12 31 +ℤ pos n)

-- the text of a civil date and time, YYYY-MM-DDTHH:MM:SSZ
abbrev pub IsUtcText : ℕ → List ℕ → Type 0
IsUtcText t text = (y : ℕ) × (m : ℕ) × (d : ℕ) × (y < 10000) × IsDayAfterEpoch (t / 86400) y m d
    × (text ≡ date_digits y m d ++ codes "T" ++ clock_digits (t % 86400) ++ codes "Z")

-- The text of an instant. Below 0x10000000 it counts the seconds since the device was switched on, and is no civil time.
pub record IsInstantText (t : ℕ) (text : List ℕ) : Type 0 where
  pub system : t < 0x10000000 → text ≡ codes "system+" ++ decimal t
  pub civil : 0x10000000 ≤ t → IsUtcText t text
