-- The text of an instant as a function: years and months are counted off one after another.
use Rattle.std.specs.Prelude.{ℕ, zero, suc, ◌+◌, ◌-◌, ◌/◌, ◌%◌, nat_lt, if◌then◌else◌, List, ◌++◌, codes, decimal, pos}
use Rattle.jiff_core.specs.Calendar.{days_in_month, days_in_year}
use Rattle.fit_numbers.specs.Instant.{date_digits, clock_digits}

-- The date n days after the first of a month, which lies at most that many months later in the year, as YYYY-MM-DD.
unfoldable pub date_in_year : ℕ → ℕ → ℕ → ℕ → List ℕ
date_in_year zero y m n = date_digits y m (n + 1)
date_in_year (suc later) y m n = if nat_lt n (days_in_month (pos y) m) then date_digits y m (n + 1) else date_in_year later y (m + 1)
    (n - days_in_month (pos y) m)

-- The date n days after 1 January of a year, which lies at most that many years later.
unfoldable pub date_after : ℕ → ℕ → ℕ → List ℕ
date_after zero y n = date_in_year 11 y 1 n
date_after (suc later) y n = if nat_lt n (days_in_year (pos y)) then date_in_year 11 y 1 n else date_after later (y + 1) (n - days_in_year (pos y))

-- The text of an instant of 32 bits. Day 0 is 31 December 1989, the 365th day of its year, and the last one lies in 2126. That it
-- is the text of the instant's day in the calendar, and of its time, is the law `instant_text_is`.
abbrev pub instant_text : ℕ → List ℕ
instant_text t =
    if nat_lt t 0x10000000 then codes "system+" ++ decimal t
    else date_after 137 1989 (364 + t / 86400) ++ codes "T" ++ clock_digits (t % 86400) ++ codes "Z"
