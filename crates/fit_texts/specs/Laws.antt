-- What holds of the computed texts of instants.
use Rattle.std.specs.Prelude.{◌<◌, ◌^◌, ℕ}
use Rattle.fit_numbers.specs.Instant.{IsInstantText}
use Rattle.fit_texts.specs.InstantText.{instant_text}

-- the computed text of an instant is its text
abbrev pub InstantTextIs : Type 0
InstantTextIs = (t : ℕ) → t < 2 ^ 32 → IsInstantText t (instant_text t)
