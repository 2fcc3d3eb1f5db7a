-- The number that an item of a field holds (FIT protocol, "Base Type", and FIT SDK, Profile, columns "Scale" and "Offset").
use Rattle.std.specs.Prelude.{◌≡◌, ℕ, ◌^◌, ◌==◌, ◌&&◌, not, nat_lt, if◌then◌else◌, slice_get, Option, Some, None, option_and_then, ℤ, pos}
use Rattle.fit_base.specs.declared.items.Items.{Items}
use Rattle.fit_base.specs.declared.code.Class.{Class}
use Rattle.fit_base.specs.declared.code.Class.TheVariants.{Signed, Unsigned, Text, Float, Bytes}
use Rattle.fit_base.specs.BaseTypes.{base_type}
use Rattle.fit_base.specs.Numbers.{twos_complement}
use Rattle.fit_record.specs.declared.definition.FieldDef.{FieldDef}
use Rattle.fit_numbers.specs.declared.decimal.Fixed.{Fixed}
use Rattle.fit_names.specs.Profile.{Meaning}
use Rattle.fit_numbers.specs.Scaled.{decimals, IsScaled}

-- the number that an item stands for, where its class is one of numbers
abbrev pub number_of_class : Class → ℕ → ℕ → Option ℤ
number_of_class Signed width bits = Some (twos_complement width bits)
number_of_class Unsigned width bits = Some (pos bits)
number_of_class Text width bits = None
number_of_class Float width bits = None
number_of_class Bytes width bits = None

-- an item of its code's width holds a value where it isn't the invalid one
abbrev pub valid_number : ℕ → ℕ → ℕ → Option ℤ
valid_number code width bits =
    if (width == (base_type code).width && nat_lt bits (256 ^ width)) && not (bits == (base_type code).invalid) then number_of_class (base_type code).class
    width bits
    else None

-- the number of a field's first item
abbrev pub first_number : {A : Type 0} → FieldDef → Items A → Option ℤ
first_number f i = option_and_then (valid_number f.code i.width) (slice_get i.bits 0)

-- the number that a raw value of a field stands for, where there is one
abbrev pub IsValueOf : Option (ℤ × Meaning) → Option Fixed → Type 0
IsValueOf None None = Unit {0}
IsValueOf (Some (raw, m)) (Some v) = (v.decimals ≡ decimals m.scale) × IsScaled raw m.scale m.offset v.value
IsValueOf _ _ = ⊥

-- a number of units of which `scale` are one, where there is one
abbrev pub IsAmount : ℕ → Option ℕ → Option Fixed → Type 0
IsAmount scale None None = Unit {0}
IsAmount scale (Some n) (Some v) = (v.decimals ≡ decimals scale) × IsScaled (pos n) scale 0 v.value
IsAmount scale _ _ = ⊥
