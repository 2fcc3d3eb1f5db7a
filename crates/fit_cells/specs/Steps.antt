-- How cells are put together and taken apart: what `read_bytes` reads; and what stands between items and how lone cells are written, which
-- only private contracts name.
use Rattle.std.specs.Prelude.{◌≡◌, ℕ, zero, suc, ◌+◌, ◌-◌, ◌*◌, ◌%◌, ◌==◌, nat_lt, if◌then◌else◌, Bool, List, [], ◌∷◌, length, take, drop, Vec}
use Rattle.std.specs.Global.{Global}
use Rattle.csv.specs.Writing.{default_writer, fields_written, next_sep, writer_pending, writer_setup}
use Rattle.csv.specs.declared.writer.Writer.{Writer}

-- what stands before the item at a place
abbrev pub bar : ℕ → List ℕ
bar zero = []
bar (suc place) = 124 ∷ []

abbrev pub is_bar : ℕ → Bool
is_bar b = b == 124

-- what a hexadecimal digit stands for, and any other byte for some number below 16
abbrev pub hex_value : ℕ → ℕ
hex_value b = if nat_lt b 58 then (b - 48) % 16 else (b - 55) % 16

-- the number after more hexadecimal digits
unfoldable pub read_hex : ℕ → List ℕ → ℕ
read_hex n [] = n
read_hex n (b ∷ rest) = read_hex (n * 16 + hex_value b) rest

-- that many numbers of two hexadecimal digits each
unfoldable pub read_pairs : ℕ → List ℕ → List ℕ
read_pairs zero text = []
read_pairs (suc count) text = read_hex 0 (take 2 text) ∷ read_pairs count (drop 2 text)

-- A writer of the crate's usual form is within a row. Nothing is left to be sent, and it puts that many bytes before the next cell.
pub record IsInRow (w : Writer (Vec ℕ Global)) (count : ℕ) : Type 0 where
  pub setup : writer_setup w ≡ default_writer
  pub sent : writer_pending w ≡ []
  pub before : length (next_sep default_writer (fields_written w)) ≡ count
