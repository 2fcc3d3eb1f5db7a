-- The times of a minute have one text up to their seconds.
use Rattle.fit_texts.proofs.Common.{◌≡◌, ◌∙◌, ◌+◌, ◌++◌, ◌/◌, ◌%◌, ◌^◌, ◌≤◌, take, refl, sym, ap, arith, le-ltb, date_digits, two_digits, date_after}
use Rattle.fit_texts.proofs.Common.{instant_text, IsMinute, seconds_text}
use Rattle.std.proofs.Common.{ℕ, ◌<◌, List, codes}
use Rattle.fit_texts.proofs.InstantFacts.{date-of-day}

-- a civil date and time
abbrev stamp : ℕ → ℕ → ℕ → ℕ → ℕ → ℕ → List ℕ
stamp y m d hour minute second =
    date_digits y m d ++ codes "T" ++ (two_digits hour ++ codes ":" ++ two_digits minute ++ codes ":" ++ two_digits second) ++ codes "Z"

cut_stamp : (y m d hour minute second other : ℕ)
    → stamp y m d hour minute second ≡ take 17 (stamp y m d hour minute other) ++ seconds_text second
cut_stamp y m d hour minute second other = refl

civil_stamp : (t y m d : ℕ) → 0x10000000 ≤ t → date_after 137 1989 (364 + t / 86400) ≡ date_digits y m d
    → instant_text t ≡ stamp y m d (t % 86400 / 3600) (t % 86400 / 60 % 60) (t % 86400 % 60)
civil_stamp t y m d late date = rw (le-ltb t 0x10000000 late, date) refl

pub is_minute : (s : ℕ) (text : List ℕ) → s < 2 ^ 32 → 4473924 < s / 60 → text ≡ take 17 (instant_text s) → IsMinute (s / 60) text
is_minute s text fits late is = λ t below same.
    let (y, m, d, early, day, date) = date-of-day (s / 86400) (omega (arith, fits)) in
    let days : t / 86400 ≡ s / 86400 = omega (arith, same) in
    let hour : t % 86400 / 3600 ≡ s % 86400 / 3600 = omega (arith, same, days) in
    let minutes : t % 86400 / 60 ≡ s % 86400 / 60 = omega (arith, same, days) in
    let second : t % 86400 % 60 ≡ t % 60 = omega arith in
    let hours = s % 86400 / 3600 in
    let minute = s % 86400 / 60 % 60 in
    civil_stamp t y m d (omega (arith, late, same)) (ap (λ n. date_after 137 1989 (364 + n)) days ∙ date)
    ∙ (λ i. stamp y m d (hour i) (minutes i % 60) (second i))
    ∙ cut_stamp y m d hours minute (t % 60) (s % 86400 % 60)
    ∙ ap (λ u. take 17 u ++ seconds_text (t % 60)) (sym (civil_stamp s y m d (omega (arith, late)) date))
    ∙ ap (λ u. u ++ seconds_text (t % 60)) (sym is)
