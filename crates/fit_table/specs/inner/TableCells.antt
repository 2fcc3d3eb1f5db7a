-- How the cells of the table are put together. No public contract names these.
use Rattle.std.specs.Prelude.{◌≡◌, ℕ, Bool, List, [], ◌∷◌, ◌++◌, drop, is_some, map, option_map, take, unwrap_or, Option}
use Rattle.std.specs.Global.{Global}
use Rattle.csv.specs.Writing.{default_writer, fields_text}
use Rattle.fit_record.specs.declared.definition.MessageDef.{MessageDef}
use Rattle.fit_record.specs.declared.message.Values.{Values}
use Rattle.fit_profile.specs.declared.told.Told.{Told}
use Rattle.fit_numbers.specs.declared.decimal.Fixed.{Fixed}
use Rattle.fit_numbers.specs.FixedText.{fixed_text}
use Rattle.fit_cells.specs.Rows.{Cell}
use Rattle.fit_table.specs.Table.{number_cells}

-- the text of a number, where there is one
abbrev pub shown_text : Option Fixed → Option Cell
shown_text value = option_map (λ v. fixed_text v.value v.decimals) value

-- The cell was put after a text, where there is one; and whether there is one.
abbrev pub PutsCell : Option Cell → Bool → List ℕ → List ℕ → Type 0
PutsCell cell put old new = (put ≡ is_some cell) × (new ≡ old ++ unwrap_or cell [])

-- The cells were put after a text, each after a comma: they aren't the first of their row.
abbrev pub AddsCells : List (Option Cell) → List ℕ → List ℕ → Type 0
AddsCells cells old new = new ≡ old ++ fields_text default_writer (map (λ cell. unwrap_or cell []) cells)

abbrev pub AddsCell : Option Cell → List ℕ → List ℕ → Type 0
AddsCell cell old new = AddsCells (cell ∷ []) old new

-- The cells were put after a text, each after a comma, and after them the end of the line.
abbrev pub EndsRow : List (Option Cell) → List ℕ → List ℕ → Type 0
EndsRow cells old new = new ≡ (old ++ fields_text default_writer (map (λ cell. unwrap_or cell []) cells)) ++ (10 ∷ [])

-- the cells of a row from the positions to the distance
abbrev pub place_cells : {A : Type 0} → MessageDef A → Values A → Told → List (Option Cell)
place_cells d v t = take 4 (number_cells d v t)

-- the cells of a row from the speed on
abbrev pub effort_cells : {A : Type 0} → MessageDef A → Values A → Told → List (Option Cell)
effort_cells d v t = drop 4 (number_cells d v t)

-- There is a record message of a definition and with values that tells something, of which this holds.
abbrev pub AreSome : (MessageDef Global → Values Global → Told → Type 0) → Type 0
AreSome Are = (d : MessageDef Global) × (v : Values Global) × (t : Told) × Are d v t
