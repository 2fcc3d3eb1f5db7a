-- How the numbers of a field are shown.
use Rattle.std.specs.Prelude.{◌≡◌, ◌≤◌, ◌⊎◌, ◌^◌, ℕ, ℤ, pos, ◌-ℤ◌, ◌*ℤ◌, Option, if◌then◌else◌}
use Rattle.fit_base.specs.declared.code.Class.TheVariants.{Signed, Unsigned}
use Rattle.fit_base.specs.BaseTypes.{base_type}
use Rattle.fit_numbers.specs.FixedText.{fixed_text}
use Rattle.fit_numbers.specs.Scaled.{IsFactor}
use Rattle.fit_profile.specs.Profile.{Meaning}
use Rattle.fit_cells.specs.declared.form.NumberForm.{NumberForm}
use Rattle.fit_cells.specs.Cells.{number_text}

-- its numbers have 64 bits at most, also when they are scaled
pub record IsSmallForm (f : NumberForm) : Type 0 where
  pub width : (f.width ≡ 1) ⊎ (f.width ≡ 2) ⊎ (f.width ≡ 4)
  pub factor : IsFactor f.factor
  pub shift : f.shift ≤ 2 ^ 42
  pub few : f.decimals ≤ 8

-- The form of the numbers of a base type that mean this: an item is shown as `fixed_text` has it.
pub record IsFormOf (code : ℕ) (info : Option Meaning) (f : NumberForm) : Type 0 where
  pub width : f.width ≡ (base_type code).width
  pub class : (base_type code).class ≡ (if f.signed then Signed else Unsigned)
  pub invalid : f.invalid ≡ (base_type code).invalid
  pub text : (raw : ℤ) → number_text info raw ≡ fixed_text ((raw -ℤ pos f.shift) *ℤ pos f.factor) f.decimals
