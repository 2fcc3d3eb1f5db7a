-- What the rows of a file and a minute begin with. No public contract names this.
use Rattle.std.specs.Prelude.{◌≡◌, ℕ, ◌/◌, ◌%◌, ◌^◌, ◌<◌, List, ◌++◌, ◌∷◌, decimal}
use Rattle.fit_texts.specs.InstantText.{instant_text}
use Rattle.fit_texts.specs.Minutes.{seconds_text}

-- The rows of this file with times of this minute begin with this text, up to their seconds.
abbrev pub IsFront : ℕ → ℕ → List ℕ → Type 0
IsFront file minute text = (t : ℕ) → t < 2 ^ 32 → t / 60 ≡ minute → decimal file ++ (44 ∷ instant_text t) ≡ text ++ seconds_text (t % 60)
