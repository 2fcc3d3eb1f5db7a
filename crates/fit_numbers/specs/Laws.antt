-- Laws of scaled values, of texts, and of instants.
use Rattle.std.specs.Prelude.{◌≡◌, ℕ, ℤ, List}
use Rattle.fit_numbers.specs.Scaled.{IsScale, IsScaled, IsDegrees}
use Rattle.fit_numbers.specs.FixedText.{fixed_text, IsIn128}
use Rattle.fit_numbers.specs.Instant.{IsInstantText}

-- an instant has one text
abbrev pub InstantHasOneText : Type 0
InstantHasOneText = (t : ℕ) (a b : List ℕ) → IsInstantText t a → IsInstantText t b → a ≡ b

-- a text is that of one number at most
abbrev pub TextHasOneNumber : Type 0
TextHasOneNumber = (v w : ℤ) (d : ℕ) → IsIn128 v → IsIn128 w → fixed_text v d ≡ fixed_text w d → v ≡ w

-- a raw value stands for one number
abbrev pub ScaledValueIsOne : Type 0
ScaledValueIsOne = (raw : ℤ) (scale offset : ℕ) (v w : ℤ) → IsScale scale → IsScaled raw scale offset v → IsScaled raw scale offset w → v ≡ w

-- a number of semicircles is one number of degrees
abbrev pub DegreesAreOne : Type 0
DegreesAreOne = (semicircles v w : ℤ) → IsDegrees semicircles v → IsDegrees semicircles w → v ≡ w
