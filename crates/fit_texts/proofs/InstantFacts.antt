-- The text of an instant, counted off by years and months, is the text of its civil date and time.
use Rattle.fit_texts.proofs.Common.{◌≡◌, zero, suc, ◌+◌, ◌-◌, ◌*◌, ◌/◌, ◌^◌, ◌≤◌, false, inl, inr, ◌+ℤ◌, arith, refl, subst, nat_lt, cases_Bool, le-ltb, lt-ltb}
use Rattle.fit_texts.proofs.Common.{ltb-false, ltb-true, date_digits, IsDayAfterEpoch, IsInstantText, date_after, date_in_year, instant_text}
use Rattle.std.proofs.Common.{ℕ, ◌<◌, List, pos}
use Rattle.jiff_core.specs.Calendar.{day_count, days_from_civil, days_in_month, days_in_year, IsCivilDate}
use Rattle.jiff_core.proofs.CalendarLemmas.{day_count-day, day_count-last_of_year, day_count-next_month, day_count-next_year}
use Rattle.jiff_core.proofs.CalendarLemmas.{days_from_civil-day_count, days_in_year_bounds}
use Rattle.jiff_core.proofs.SignedLemmas.{signed_arith}

-- the text of the date before which that many days are counted
IsDate : ℕ → List ℕ → Type 0
IsDate count text = (y : ℕ) × (m : ℕ) × (d : ℕ) × (y < 10000) × IsCivilDate (pos y) m d × (day_count (pos y) m d ≡ count) × (text ≡ date_digits y m d)

in-month : (y m n : ℕ) → y < 10000 → 1 ≤ m → m ≤ 12 → n < days_in_month (pos y) m → IsDate (day_count (pos y) m 1 + n) (date_digits y m (n + 1))
unfolding IsDate
in-month y m n early low high within = (
  y,
  m,
  n + 1,
  early,
  ((omega (arith, signed_arith), omega (arith, signed_arith)), (low, high), (omega arith, omega arith)),
  omega (arith, day_count-day (pos y) m (n + 1) 1 (omega arith) (omega arith)),
  refl,
)

-- a date of this month or a later one of the year
in-year : (later y m n : ℕ) → y < 10000 → 1 ≤ m → later + m ≡ 12 → day_count (pos y) m 1 + n < day_count (pos y) 1 1 + days_in_year (pos y)
    → IsDate (day_count (pos y) m 1 + n) (date_in_year later y m n)
unfolding date_in_year
in-year zero y m n early low last within =
    let december : m ≡ 12 = omega (arith, last) in
    let days : days_in_month (pos y) m ≡ 31 = rw december refl in
    let end : day_count (pos y) m 31 + 1 ≡ day_count (pos y) 1 1 + days_in_year (pos y) = rw december (day_count-last_of_year (pos y)) in
    in-month y m n early low (omega arith) (omega (arith, days, end, within, day_count-day (pos y) m 1 31 (omega arith) (omega arith)))
in-year (suc later) y m n early low last within = elim (cases_Bool (nat_lt n (days_in_month (pos y) m))) [
  | inl here ↦ rw here (in-month y m n early low (omega (arith, last)) (ltb-true n (days_in_month (pos y) m) here))
  | inr after ↦
      let past : days_in_month (pos y) m ≤ n = ltb-false n (days_in_month (pos y) m) after in
      let next = day_count-next_month (pos y) m low in
      let same : day_count (pos y) (m + 1) 1 + (n - days_in_month (pos y) m) ≡ day_count (pos y) m 1 + n = omega (arith, next, past) in
      rw after (subst (λ count. IsDate count (date_in_year later y (m + 1) (n - days_in_month (pos y) m))) same
      (in-year later y (m + 1) (n - days_in_month (pos y) m) early (omega (arith, low)) (omega (arith, last)) (omega (arith, same, within))))
]

-- a date of this year or a later one
in-years : (later y n : ℕ) → y + later < 10000 → n < 365 * (later + 1) → IsDate (day_count (pos y) 1 1 + n) (date_after later y n)
unfolding date_after
in-years zero y n early within = in-year 11 y 1 n (omega (arith, early)) (omega arith) refl (omega (arith, within, days_in_year_bounds (pos y)))
in-years (suc later) y n early within = elim (cases_Bool (nat_lt n (days_in_year (pos y)))) [
  | inl here ↦ rw here (in-year 11 y 1 n (omega (arith, early)) (omega arith) refl (omega (arith, ltb-true n (days_in_year (pos y)) here)))
  | inr after ↦
      let past : days_in_year (pos y) ≤ n = ltb-false n (days_in_year (pos y)) after in
      let next = day_count-next_year (pos y) (pos (y + 1)) (omega (arith, signed_arith)) (omega (arith, signed_arith)) in
      let same : day_count (pos (y + 1)) 1 1 + (n - days_in_year (pos y)) ≡ day_count (pos y) 1 1 + n = omega (arith, next, past) in
      rw after (subst (λ count. IsDate count (date_after later (y + 1) (n - days_in_year (pos y)))) same
      (in-years later (y + 1) (n - days_in_year (pos y)) (omega (arith, early)) (omega (arith, within, past, days_in_year_bounds (pos y)))))
]

-- 31 December 1989 is the day 364 days after the first of its year
first-of-1989 : day_count (pos 1989) 1 1 + 364 ≡ day_count (pos 1989) 12 31
first-of-1989 = omega (arith, day_count-last_of_year (pos 1989))

-- that many days after 31 December 1989
pub date-of-day : (n : ℕ) → n < 50000 → (y : ℕ) × (m : ℕ) × (d : ℕ) × (y < 10000) × IsDayAfterEpoch n y m d
    × (date_after 137 1989 (364 + n) ≡ date_digits y m d)
unfolding IsDate
date-of-day n within =
    let (y, m, d, early, civil, count, text) = in-years 137 1989 (364 + n) (omega arith) (omega (arith, within)) in
    let day : days_from_civil (pos y) m d ≡ days_from_civil (pos 1989) 12 31 +ℤ pos n =
    omega (arith, signed_arith, days_from_civil-day_count (pos y) m d, days_from_civil-day_count (pos 1989) 12 31, first-of-1989, count) in
    (y, m, d, early, (civil, day), text)

-- an instant of 32 bits has that text
pub instant-text : (t : ℕ) → t < 2 ^ 32 → IsInstantText t (instant_text t)
instant-text t fits = record {
  system = λ early. rw (lt-ltb t 0x10000000 early) refl;
  civil = λ late.
      let (y, m, d, below, day, text) = date-of-day (t / 86400) (omega (arith, fits)) in
      let civil : nat_lt t 0x10000000 ≡ false = le-ltb t 0x10000000 late in
      (y, m, d, below, day, rw (civil, text) refl);
}
