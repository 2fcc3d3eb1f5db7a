-- When a text that was spelled anew has the rows of the text that it was made from. No public contract names these.
use Rattle.std.specs.Prelude.{◌≡◌, ◌<◌, ◌≤◌, ◌+◌, ◌++◌, ◌∷◌, ◌==◌, ◌||◌, ◌⊎◌, [], if◌then◌else◌}
use Rattle.std.specs.Prelude.{drop, length, take, ℕ, List, Bool, true, false, not, Some, None}
use Rattle.csv.specs.Machine.{Read, next_record}
use Rattle.csv.specs.Reading.{AreRecords, default_config}
use Rattle.csv.specs.declared.parser.State.{State}
use Rattle.csv.specs.declared.parser.State.TheVariants as st
use Rattle.fit_cells.specs.Rows.{Row}
use Rattle.fit_csv_text.specs.declared.loose.Spot.{Spot}
use Rattle.fit_csv_text.specs.declared.loose.Spot.TheVariants.{RowStart, CellStart, InCell}

-- the state in which the crate csv reads on at a spot
abbrev pub spot_state : Spot → State
spot_state RowStart = st.StartRecord
spot_state CellStart = st.StartField
spot_state InCell = st.InField

-- where a byte that is no quote leads
abbrev pub spot_after : ℕ → Spot
spot_after c = if c == 44 then CellStart else if c == 10 then RowStart else InCell

-- where a text leads in which no quotes count
unfoldable pub spot_from : Spot → List ℕ → Spot
spot_from spot [] = spot
spot_from spot (c ∷ text) = spot_from (spot_after c) text

-- the bytes that a cell without quotes can't have
abbrev pub is_special : ℕ → Bool
is_special c = (c == 44) || (c == 34) || (c == 13) || (c == 10)

-- the bytes at which a text may have another spelling than ours
abbrev pub is_mark : ℕ → Bool
is_mark c = (c == 34) || (c == 13)

-- no byte passes the test
unfoldable pub NoneOf : (ℕ → Bool) → List ℕ → Type 0
NoneOf test [] = Unit {0}
NoneOf test (c ∷ text) = (test c ≡ false) × NoneOf test text

-- The text, read on in the middle of a record, has these rows: the first is that record.
abbrev pub RowsFrom : State → List (List ℕ) → List ℕ → List ℕ → List Row → Type 0
RowsFrom s fields field text [] = next_record default_config s fields field text ≡ None
RowsFrom s fields field text (r ∷ rows) =
    (p : Read) × (next_record default_config s fields field text ≡ Some p) × (r ≡ p.0) × AreRecords default_config p.1 p.2 rows

-- Whatever rows the plain text has, read on from its state, the loose text has from its own.
pub record HasRowsOf (s : State) (loose : List ℕ) (s2 : State) (plain : List ℕ) : Type 0 where
  pub rows_of : (fields : List (List ℕ)) (field : List ℕ) (rows : List Row) → RowsFrom s2 fields field plain rows → RowsFrom s fields field loose rows

-- What was written stands for the text up to what is left of it.
pub record StandsFor (text left written : List ℕ) : Type 0 where
  pub goes_on : (plain : List ℕ) → HasRowsOf (spot_state (spot_from RowStart written)) left (spot_state (spot_from RowStart written)) plain
      → HasRowsOf st.StartRecord text st.StartRecord (written ++ plain)

-- After any rows, writing has gone on as far as the text has been read.
abbrev pub WritesOn : List ℕ → List ℕ → List ℕ → List ℕ → Type 0
WritesOn from left written more = (text rows : List ℕ) → spot_from RowStart rows ≡ RowStart → StandsFor text from (rows ++ written)
    → StandsFor text left (rows ++ more)

-- Some bytes are written after others, and there was room for them.
abbrev pub Grows : List ℕ → List ℕ → Type 0
Grows written more = (length written < length more) × (length more ≤ 65536)

-- The text begins with the end of a row, also that of its last one, and this comes after it.
abbrev pub EndsLine : List ℕ → List ℕ → Type 0
EndsLine text left = (text ≡ 10 ∷ left) ⊎ ((text ≡ 13 ∷ 10 ∷ left) ⊎ ((text ≡ []) × (left ≡ [])))

-- The text begins with what comes after a cell in quotes, and it is spelled so.
abbrev pub EndsCell : List ℕ → List ℕ → List ℕ → Type 0
EndsCell text left spelled = ((text ≡ 44 ∷ left) × (spelled ≡ 44 ∷ [])) ⊎ (EndsLine text left × (spelled ≡ 10 ∷ []))

-- whether a cell may begin at a spot
abbrev pub may_open : Spot → Bool
may_open RowStart = true
may_open CellStart = true
may_open InCell = false

-- A cell may begin there without quotes: at the start of a row it shows some byte.
abbrev pub Opens : Spot → List ℕ → Type 0
Opens CellStart cell = Unit {0}
Opens RowStart [] = ⊥
Opens RowStart (c ∷ cell) = Unit {0}
Opens InCell cell = ⊥

-- The bytes end with the quote that closes a cell: one byte after a quote is another one. It is told whether the cell is open before them.
unfoldable pub Closes : Bool → List ℕ → Type 0
Closes true [] = ⊥
Closes false [] = Unit {0}
Closes true (c ∷ cell) = Closes (not (c == 34)) cell
Closes false (c ∷ cell) = (c ≡ 34) × Closes true cell

-- The text begins with a cell in quotes that needs none and shows few bytes, and with what ends it: that many bytes in all. This byte is
-- written after those that the cell shows.
pub record IsShortCell (text : List ℕ) (shown end size : ℕ) : Type 0 where
  pub few : shown ≤ 16
  pub enough : 17 ≤ length text
  pub within : size ≤ length text
  pub shows : text ≡ 34 ∷ (take shown (drop 1 text) ++ (34 ∷ drop (shown + 2) text))
  pub plain : NoneOf is_special (take shown (drop 1 text))
  pub ends : EndsCell (drop (shown + 2) text) (drop size text) (end ∷ [])
