-- What the texts of the times of a minute have in common.
use Rattle.std.specs.Prelude.{◌≡◌, ℕ, ◌/◌, ◌%◌, ◌^◌, ◌<◌, List, ◌++◌, codes}
use Rattle.fit_numbers.specs.Instant.{two_digits}
use Rattle.fit_texts.specs.InstantText.{instant_text}

-- the end of the text of a time, from its seconds on
abbrev pub seconds_text : ℕ → List ℕ
seconds_text s = two_digits s ++ codes "Z"

-- The times of this minute begin with this text, up to their seconds.
abbrev pub IsMinute : ℕ → List ℕ → Type 0
IsMinute minute text = (t : ℕ) → t < 2 ^ 32 → t / 60 ≡ minute → instant_text t ≡ text ++ seconds_text (t % 60)
