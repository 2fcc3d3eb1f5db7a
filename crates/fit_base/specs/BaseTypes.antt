-- The base types of the FIT protocol (section "Base Type", table of FIT base types).
use Rattle.std.specs.Prelude.{ℕ, ◌%◌, ◌==◌, if◌then◌else◌, List, [], ◌∷◌, find, unwrap_or}
use Rattle.fit_base.specs.declared.code.Class.{Class}
use Rattle.fit_base.specs.declared.code.Class.TheVariants.{Signed, Unsigned, Text, Float, Bytes}

-- a row of the table: code, width in bytes, the number that says "no value", and how the numbers are to be read
pub record BaseType : Type 0 where
  pub code : ℕ
  pub width : ℕ
  pub invalid : ℕ
  pub class : Class

-- a row from its four columns
abbrev pub base : ℕ → ℕ → ℕ → Class → BaseType
base code width invalid class = record { code = code; width = width; invalid = invalid; class = class }

-- byte, which stands for every code that the table leaves out
abbrev pub byte : BaseType
byte = base 0x0D 1 0xFF Bytes

-- the table, row by row
abbrev pub base_types : List BaseType
base_types =
    base 0x00 1 0xFF Unsigned  -- enum
    ∷ base 0x01 1 0x7F Signed  -- sint8
    ∷ base 0x02 1 0xFF Unsigned  -- uint8
    ∷ base 0x07 1 0x00 Text  -- string
    ∷ base 0x0A 1 0x00 Unsigned  -- uint8z
    ∷ byte
    ∷ base 0x83 2 0x7FFF Signed  -- sint16
    ∷ base 0x84 2 0xFFFF Unsigned  -- uint16
    ∷ base 0x85 4 0x7FFFFFFF Signed  -- sint32
    ∷ base 0x86 4 0xFFFFFFFF Unsigned  -- uint32
    ∷ base 0x88 4 0xFFFFFFFF Float  -- float32
    ∷ base 0x89 8 0xFFFFFFFFFFFFFFFF Float  -- float64
    ∷ base 0x8B 2 0 Unsigned  -- uint16z
    ∷ base 0x8C 4 0 Unsigned  -- uint32z
    ∷ base 0x8E 8 0x7FFFFFFFFFFFFFFF Signed  -- sint64
    ∷ base 0x8F 8 0xFFFFFFFFFFFFFFFF Unsigned  -- uint64
    ∷ base 0x90 8 0 Unsigned  -- uint64z
    ∷ []

-- the base type of a code
abbrev pub base_type : ℕ → BaseType
base_type code = unwrap_or (find (λ t. t.code == code) base_types) byte

-- The width of a field's items: its base type's, where that divides the size, and else 1.
abbrev pub item_width : ℕ → ℕ → ℕ
item_width code size = if size % (base_type code).width == 0 then (base_type code).width else 1
