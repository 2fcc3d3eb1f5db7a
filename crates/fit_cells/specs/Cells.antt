-- The text of a field, as a cell of a CSV row shows it.
use Rattle.std.specs.Prelude.{ℕ, zero, suc, ◌+◌, ◌*◌, ◌/◌, ◌%◌, ◌^◌, ◌==◌, ◌&&◌, not, nat_lt, if◌then◌else◌, Bool, List, [], ◌∷◌, ◌++◌, length, map, flat_map}
use Rattle.std.specs.Prelude.{slice_index, Option, Some, None, ℤ, pos, ◌-ℤ◌, ◌*ℤ◌, codes}
use Rattle.std.specs.List.{list_all}
use Rattle.std.specs.Str.{is_utf8}
use Rattle.fit_base.specs.declared.code.Class.{Class}
use Rattle.fit_base.specs.declared.code.Class.TheVariants.{Signed, Unsigned, Text, Bytes}
use Rattle.fit_base.specs.declared.items.Items.{Items}
use Rattle.fit_base.specs.BaseTypes.{base_type}
use Rattle.fit_base.specs.Numbers.{twos_complement}
use Rattle.fit_profile.specs.Described.{before_closing_zeros}
use Rattle.fit_numbers.specs.FixedText.{fixed_text}
use Rattle.fit_profile.specs.Profile.{Meaning}
use Rattle.fit_numbers.specs.Scaled.{decimals}

-- what the items of a field stand for: bytes where they have another width than the field's base type
abbrev pub class_of : ℕ → ℕ → Class
class_of code width = if width == (base_type code).width then (base_type code).class else Bytes

-- texts, with a bar between one and the next
abbrev pub barred : List (List ℕ) → List ℕ
barred [] = []
barred (text ∷ texts) = text ++ flat_map (λ t. 124 ∷ t) texts

-- 0 to 9 and A to F
abbrev pub hex_digit : ℕ → ℕ
hex_digit n = if nat_lt n 10 then 48 + n else 55 + n

-- the last k hexadecimal digits of a number
unfoldable pub hex_digits : ℕ → ℕ → List ℕ
hex_digits zero n = []
hex_digits (suc k) n = hex_digit (n / 16 ^ k % 16) ∷ hex_digits k n

-- bytes, two hexadecimal digits each
abbrev pub bytes_text : List ℕ → List ℕ
bytes_text bytes = codes "0x" ++ flat_map (λ b. hex_digits 2 b) bytes

-- raw / scale - offset, in units of the last of the scale's decimals. That it is exact is the law `scaled_is_exact`.
abbrev pub scaled_value : ℤ → ℕ → ℕ → ℤ
scaled_value raw scale offset = (raw -ℤ pos (offset * scale)) *ℤ pos (10 ^ decimals scale / scale)

-- a number: scaled where it is known how, else whole
abbrev pub number_text : Option Meaning → ℤ → List ℕ
number_text None raw = fixed_text raw 0
number_text (Some m) raw = fixed_text (scaled_value raw m.scale m.offset) (decimals m.scale)

-- one of the items that stand side by side: a number, which is empty where it is the invalid one, or the bits of a float
abbrev pub item_text : Class → ℕ → Option Meaning → ℕ → ℕ → List ℕ
item_text Signed code info width n = if n == (base_type code).invalid then [] else number_text info (twos_complement width n)
item_text Unsigned code info width n = if n == (base_type code).invalid then [] else number_text info (pos n)
item_text other code info width n = codes "0x" ++ hex_digits (2 * width) n

-- as bytes begin in a cell
abbrev pub begins_as_bytes : List ℕ → Bool
begins_as_bytes text = (slice_index text 0 == 48) && (slice_index text 1 == 120)

-- UTF-8 without a zero, which doesn't begin as bytes do
abbrev pub is_plain : List ℕ → Bool
is_plain text = (is_utf8 text && list_all (λ b. not (b == 0)) text) && not (begins_as_bytes text)

abbrev pub string_text : List ℕ → List ℕ
string_text bytes = if is_plain (before_closing_zeros bytes) then before_closing_zeros bytes else bytes_text bytes

-- the items of a class
abbrev pub items_text : Class → ℕ → Option Meaning → ℕ → List ℕ → List ℕ
items_text Text code info width bits = string_text bits
items_text Bytes code info width bits = bytes_text bits
items_text numbers code info width bits = barred (map (item_text numbers code info width) bits)

-- The cell of a field: empty where it has no items, else its items as their class has them.
abbrev pub cell : {A : Type 0} → ℕ → Option Meaning → Items A → List ℕ
cell code info items = if length items.bits == 0 then [] else items_text (class_of code items.width) code info items.width items.bits
