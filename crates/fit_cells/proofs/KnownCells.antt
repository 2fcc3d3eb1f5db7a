-- Cells that are known from outside.
use Rattle.fit_cells.proofs.Common.{◌≡◌, refl, ℕ, List, [], ◌∷◌, Some, None, codes, digits, is_utf8, chars, Meaning, last_digits, cell, hex_digits}
use Rattle.std.proofs.Common.{Option}
use lib.Utf8.{encode}

-- the cell of items of a width
abbrev shown : ℕ → Option Meaning → ℕ → List ℕ → List ℕ
shown code info width bits = cell {A = ℕ} code info (record { width = width; bits = bits })

abbrev by : ℕ → ℕ → Option Meaning
by scale offset = Some (record { name = []; unit = []; scale = scale; offset = offset })

altitude_2500 : shown 0x84 (by 5 500) 2 (2500 ∷ []) ≡ codes "0.0"
unfolding digits last_digits
altitude_2500 = refl

altitude_2499 : shown 0x84 (by 5 500) 2 (2499 ∷ []) ≡ codes "-0.2"
unfolding digits last_digits
altitude_2499 = refl

altitude_invalid : shown 0x84 (by 5 500) 2 (65535 ∷ []) ≡ codes ""
altitude_invalid = refl

hrv_times : shown 0x84 (by 1000 0) 2 (812 ∷ 65535 ∷ 0 ∷ []) ≡ codes "0.812||0.000"
unfolding digits last_digits
hrv_times = refl

battery_voltage : shown 0x84 (by 256 0) 2 (956 ∷ []) ≡ codes "3.73437500"
unfolding digits last_digits
battery_voltage = refl

temperature : shown 0x01 None 1 (0xFE ∷ []) ≡ codes "-2"
unfolding digits last_digits
temperature = refl

two_invalid : shown 0x8C None 4 (0 ∷ 0 ∷ []) ≡ codes "|"
two_invalid = refl

unknown_code : shown 0x1F None 1 (0 ∷ 0xCA ∷ 0x9A ∷ 0x3B ∷ 0x31 ∷ 0x0F ∷ []) ≡ codes "0x00CA9A3B310F"
unfolding hex_digits
unknown_code = refl

odd_size : shown 0x84 None 1 (0x34 ∷ 0x12 ∷ 0x0A ∷ []) ≡ codes "0x34120A"
unfolding hex_digits
odd_size = refl

no_bytes : shown 0x0D None 1 [] ≡ codes ""
no_bytes = refl

no_text : shown 0x07 None 1 [] ≡ codes ""
no_text = refl

text : shown 0x07 None 1 (0x6D ∷ 0x6F ∷ 0 ∷ []) ≡ codes "mo"
unfolding is_utf8 chars encode
text = refl

zeros_alone : shown 0x07 None 1 (0 ∷ 0 ∷ []) ≡ codes ""
unfolding is_utf8 chars encode
zeros_alone = refl

begins_as_bytes_do : shown 0x07 None 1 (0x30 ∷ 0x78 ∷ []) ≡ codes "0x3078"
unfolding is_utf8 chars encode hex_digits
begins_as_bytes_do = refl

zero_inside : shown 0x07 None 1 (0x41 ∷ 0 ∷ 0x42 ∷ 0 ∷ []) ≡ codes "0x41004200"
unfolding is_utf8 chars encode hex_digits
zero_inside = refl

no_utf8 : shown 0x07 None 1 (0x41 ∷ 0xFF ∷ []) ≡ codes "0x41FF"
unfolding is_utf8 chars encode hex_digits
no_utf8 = refl

float_without_value : shown 0x88 None 4 (0xFFFFFFFF ∷ []) ≡ codes "0xFFFFFFFF"
unfolding hex_digits
float_without_value = refl

two_floats : shown 0x88 None 4 (0x3F800000 ∷ 0xC0000000 ∷ []) ≡ codes "0x3F800000|0xC0000000"
unfolding hex_digits
two_floats = refl
