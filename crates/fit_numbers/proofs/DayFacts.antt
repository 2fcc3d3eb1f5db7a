-- The day from which instants are counted, and dates after it.
use Rattle.fit_numbers.proofs.Common.{inl, inr, ◌≡◌, ◌∙◌, ℕ, pos, ◌≤ℤ◌, ◌<ℤ◌, List, ◌/◌, arith, refl, sym, cases_lt, epoch_day, by_lt_z}
use Rattle.jiff_core.specs.Calendar.{days_from_civil, day_count, days_of_years, days_of_months, IsCivilDate}
use Rattle.jiff_core.specs.declared.civil.date.Date.{Date}
use Rattle.jiff_core.proofs.CalendarLemmas.{day_count-lt_year, days_from_civil-day_count}
use Rattle.jiff_core.proofs.SignedLemmas.{signed_arith}
use Rattle.jiff_core.proofs.DateLemmas.{epoch_day_injective}
use Rattle.fit_numbers.specs.Instant.{IsDayAfterEpoch, IsUtcText, IsInstantText}

pub start-day : days_from_civil (pos 1989) 12 31 ≡ pos 7304
unfolding days_from_civil day_count days_of_years days_of_months
start-day = refl

pub epoch_day-start : (a : Date) → a.year ≡ pos 1989 → pos a.month ≡ pos 12 → pos a.day ≡ pos 31 → epoch_day a ≡ pos 7304
epoch_day-start a y m d =
    let m' : a.month ≡ 12 = cc m in
    let d' : a.day ≡ 31 = cc d in
    rw (y, m', d') start-day

too-early : (a : Date) → pos 7304 ≤ℤ epoch_day a → a.year <ℤ pos 1989 → ⊥
too-early a h early =
    let before = day_count-lt_year a.year a.month a.day (pos 1989) 12 31 (a.year_in, a.month_in, a.day_in) (omega arith) early in
    let here = days_from_civil-day_count a.year a.month a.day in
    let there = days_from_civil-day_count (pos 1989) 12 31 in
    omega (arith, signed_arith, start-day)

-- a date at or after the first day is of 1989 or later
pub year-after : (a : Date) → pos 7304 ≤ℤ epoch_day a → pos 1989 ≤ℤ a.year
year-after a h = by_lt_z a.year (pos 1989) (λ early. absurd (too-early a h early)) (λ late. late)

date-of : (y m d : ℕ) → IsCivilDate (pos y) m d → Date
date-of y m d (year_in, month_in, day_in) = record { year = pos y; month = m; day = d; year_in = year_in; month_in = month_in; day_in = day_in }

same-day : (n y m d y' m' d' : ℕ) → IsDayAfterEpoch n y m d → IsDayAfterEpoch n y' m' d' → (pos y ≡ pos y') × (m ≡ m') × (d ≡ d')
unfolding date-of
same-day n y m d y' m' d' (civil, day) (civil', day') = epoch_day_injective (date-of y m d civil) (date-of y' m' d' civil') (day ∙ sym day')

-- a civil date and time has one text
one-text : (t : ℕ) (a b : List ℕ) → IsUtcText t a → IsUtcText t b → a ≡ b
one-text t a b (y, m, d, small, day, is) (y', m', d', small', day', is') =
    let (years, months, days) = same-day (t / 86400) y m d y' m' d' day day' in
    let years' : y ≡ y' = cc years in
    is ∙ rw (years', months, days) (sym is')

-- an instant has one text
pub one_instant_text : (t : ℕ) (a b : List ℕ) → IsInstantText t a → IsInstantText t b → a ≡ b
one_instant_text t a b x y = elim (cases_lt t 0x10000000) [
  | inl early ↦ x.system early ∙ sym (y.system early)
  | inr late ↦ one-text t a b (x.civil late) (y.civil late)
]
