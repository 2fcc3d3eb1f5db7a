-- What holds of cells, of rows and of their text.
use Rattle.std.specs.Prelude.{◌≡◌, ◌<◌, ◌^◌, ℕ, ℤ, List, Option, IfSome}
use Rattle.fit_base.specs.declared.items.Items.{Items}
use Rattle.fit_base.specs.Fields.{HasShape}
use Rattle.fit_profile.specs.Profile.{Meaning}
use Rattle.fit_numbers.specs.Scaled.{IsScale, IsScaled}
use Rattle.fit_cells.specs.Cells.{cell, scaled_value}
use Rattle.fit_cells.specs.Rows.{BeginsWithMark, NoneEmpty, Row, RowsOfText, csv_text}

-- the text of rows reads as those rows, if none of them is without a cell and the first cell doesn't begin with a byte order mark
abbrev pub ReadsBack : Type 0
ReadsBack = (rows : List Row) → NoneEmpty rows → (BeginsWithMark rows → ⊥) → RowsOfText (csv_text rows) rows

-- a text reads as one list of rows
abbrev pub ReadsOneWay : Type 0
ReadsOneWay = (text : List ℕ) (a b : List Row) → RowsOfText text a → RowsOfText text b → a ≡ b

-- a scaled number is what its raw value stands for
abbrev pub ScaledIsExact : Type 0
ScaledIsExact = (raw : ℤ) (scale offset : ℕ) → IsScale scale → IsScaled raw scale offset (scaled_value raw scale offset)

-- items with the shape that a code and a size give have a cell of their own
abbrev pub CellsAreOne : Type 0 → Type 0
CellsAreOne A =
    (code size : ℕ) (info : Option Meaning) (a b : Items A) → IfSome info (λ m. IsScale m.scale × (m.offset < 2 ^ 32)) → HasShape code size a
    → HasShape code size b →
    cell code info a ≡ cell code info b → a ≡ b
