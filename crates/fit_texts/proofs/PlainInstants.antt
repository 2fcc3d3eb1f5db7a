-- The text of an instant needs no quotes.
use Rattle.fit_texts.proofs.Common.{◌≡◌, ◌/◌, ◌%◌, ◌^◌, ◌++◌, false, inl, inr, arith, lit<, nat_lt, cases_Bool, default_writer, needs_quotes, clock_digits}
use Rattle.fit_texts.proofs.Common.{date_digits, four_digits, two_digits, High, high-append, high-decimal, plain, instant_text}
use Rattle.std.proofs.Common.{ℕ, ◌<◌, codes, decimal}
use Rattle.fit_texts.proofs.InstantFacts.{date-of-day}

two : (n : ℕ) → High (two_digits n)
two n = (omega arith, (omega arith, tt))

dash : (n : ℕ) → High (codes "-" ++ two_digits n)
dash n = (lit< tt, two n)

colon : (n : ℕ) → High (codes ":" ++ two_digits n)
colon n = (lit< tt, two n)

date : (y m d : ℕ) → High (date_digits y m d)
date y m d =
    high-append (four_digits y) ((codes "-" ++ two_digits m) ++ (codes "-" ++ two_digits d))
    (high-append (two_digits (y / 100)) (two_digits (y % 100)) (two (y / 100)) (two (y % 100)))
    (high-append (codes "-" ++ two_digits m) (codes "-" ++ two_digits d) (dash m) (dash d))

clock : (s : ℕ) → High (clock_digits s)
clock s =
    high-append (two_digits (s / 3600)) ((codes ":" ++ two_digits (s / 60 % 60)) ++ (codes ":" ++ two_digits (s % 60))) (two (s / 3600))
    (high-append (codes ":" ++ two_digits (s / 60 % 60)) (codes ":" ++ two_digits (s % 60)) (colon (s / 60 % 60)) (colon (s % 60)))

civil : (y m d s : ℕ) → High (date_digits y m d ++ codes "T" ++ clock_digits s ++ codes "Z")
civil y m d s =
    high-append (date_digits y m d) (codes "T" ++ (clock_digits s ++ codes "Z")) (date y m d)
    (lit< tt, high-append (clock_digits s) (codes "Z") (clock s) (lit< tt, tt))

pub plain-instant : (t : ℕ) → t < 2 ^ 32 → needs_quotes default_writer (instant_text t) ≡ false
plain-instant t fits = elim (cases_Bool (nat_lt t 0x10000000)) [
  | inl early ↦ rw early (plain (decimal t) (high-decimal t))
  | inr late ↦
      let (y, m, d, below, day, text) = date-of-day (t / 86400) (omega (arith, fits)) in
      rw (late, text) (plain (date_digits y m d ++ codes "T" ++ clock_digits (t % 86400) ++ codes "Z") (civil y m d (t % 86400)))
]
