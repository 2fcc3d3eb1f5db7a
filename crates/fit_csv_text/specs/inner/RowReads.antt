-- What the reader of rows reads, by the crate csv. No public contract names these.
use Rattle.std.specs.Prelude.{◌≡◌, ℕ, List, [], Option}
use Rattle.csv.specs.Machine.{Read, next_record}
use Rattle.csv.specs.Reading.{default_config}
use Rattle.csv.specs.Records.{fields_of, partial_of}
use Rattle.csv.specs.declared.parser.Action.{Action}
use Rattle.csv.specs.declared.parser.Action.TheVariants as act
use Rattle.csv.specs.declared.parser.State.{State}
use Rattle.csv.specs.declared.parser.State.TheVariants as st
use Rattle.fit_cells.specs.Rows.{Row}
use Rattle.fit_csv_text.specs.inner.Loose.{RowsFrom}
use Rattle.fit_csv_text.specs.declared.reader.Deed.{Deed}
use Rattle.fit_csv_text.specs.declared.reader.Deed.TheVariants.{Skip, Copy, EndCell, EndRow}
use Rattle.fit_csv_text.specs.declared.reader.Place.{Place}
use Rattle.fit_csv_text.specs.declared.reader.Place.TheVariants.{RowStart, CellStart, InCell, InQuotes, AfterQuote, AfterReturn}
use Rattle.fit_csv_text.specs.declared.reader.RowReader.{RowReader}

-- the state of the crate csv at a place
abbrev pub place_state : Place → State
place_state RowStart = st.StartRecord
place_state CellStart = st.StartField
place_state InCell = st.InField
place_state InQuotes = st.InQuoted
place_state AfterQuote = st.AfterQuote
place_state AfterReturn = st.AfterCr

-- its action
abbrev pub deed_action : Deed → Action
deed_action Skip = act.Skip
deed_action Copy = act.Copy
deed_action EndCell = act.EndField
deed_action EndRow = act.EndRecord

-- what the crate csv reads of a text after what the reader has taken
abbrev pub read_on : RowReader → List ℕ → Option Read
read_on r text = next_record default_config (place_state r.place) (fields_of r.row) r.cell.items text

-- After what the reader has taken, a text has these rows. The first of them is the one that the reader has begun.
abbrev pub HasRowsAfter : RowReader → List ℕ → List Row → Type 0
HasRowsAfter r text rows = RowsFrom (place_state r.place) (fields_of r.row) r.cell.items text rows

-- it stands between two rows
pub record IsBegun (r : RowReader) : Type 0 where
  pub place : place_state r.place ≡ st.StartRecord
  pub no_cells : fields_of r.row ≡ []
  pub none_begun : partial_of r.row ≡ []
  pub nothing : r.cell.items ≡ []
