-- Data messages that are read from their rows.
use Rattle.std.specs.Prelude.{◌≡◌, ◌++◌, ℕ, List, length}
use Rattle.std.specs.Global.{Global}
use Rattle.fit_record.specs.declared.message.Record.{Record}
use Rattle.fit_record.specs.declared.message.Values.{Values}
use Rattle.fit_profile.specs.Opened.{TellsNext}
use Rattle.fit_cells.specs.Rows.{csv_text}
use Rattle.fit_rows.specs.ChainRows.{data_rows}
use Rattle.fit_rows.specs.declared.whole.WholeMessage.{WholeMessage}

-- A text begins with the rows of this message after these records, which are that many, and this is left of it; and the message tells
-- this of those after it.
pub record IsWholeMessage (before : List (Record Global)) (v : Values Global) (all : List ℕ) (m : WholeMessage) : Type 0 where
  pub text : all ≡ csv_text (data_rows before v) ++ m.left.now
  pub rows : m.rows ≡ length (data_rows before v)
  pub tells : TellsNext before v m.tells
