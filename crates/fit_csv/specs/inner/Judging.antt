-- What of a text has been judged, and what is left of it. No public contract names these.
use Rattle.std.specs.Prelude.{◌≡◌, ◌<◌, ◌+◌, ◌++◌, ◌∷◌, ℕ, List, Some, length}
use Rattle.std.specs.Global.{Global}
use Rattle.csv.specs.Reading.{AreRecords, default_config}
use Rattle.csv.specs.declared.parser.State.TheVariants as st
use Rattle.fit_record.specs.declared.file.FitFile.{FitFile}
use Rattle.fit_cells.specs.Rows.{NoneEmpty, Row, RowsOfText, csv_text, first_line}
use Rattle.fit_csv.specs.declared.fault.CsvFault.{CsvFault}
use Rattle.fit_csv.specs.declared.from.chain.Chain.{Chain}
use Rattle.fit_csv.specs.declared.from.judge.RowJudge.{RowJudge}
use Rattle.fit_csv.specs.declared.from.open_file.OpenFile.{OpenFile}
use Rattle.fit_csv.specs.inner.Progress.{Run, nothing_yet}
use Rattle.fit_csv.specs.inner.TextFaults.{IsTextFault}

-- The text begins with that many rows, with which the chain goes on, and this is left of it.
pub record TakesRows (text left : List ℕ) (count : ℕ) (old new : Chain) : Type 0 where
  pub rows : List Row
  pub begins : text ≡ csv_text rows ++ left
  pub some : NoneEmpty rows
  pub run : Run old rows new
  pub many : count ≡ length rows
  pub more : 0 < count

-- The text begins with that many rows, with which a file goes on, whatever files of its chain are whole, and this is left of it.
abbrev pub FileTakesRows : List ℕ → List ℕ → ℕ → OpenFile → OpenFile → Type 0
FileTakesRows text left count old new = (files : List (FitFile Global))
    → TakesRows text left count (record { files = files; current = Some old }) (record { files = files; current = Some new })

-- Whatever rows are left come in the text after the first line and these.
abbrev pub AreBefore : List ℕ → List Row → List ℕ → Type 0
AreBefore text rows left = (more : List Row) → AreRecords default_config st.StartRecord left more → RowsOfText text (first_line ∷ (rows ++ more))

-- The rows of a text before what is left of it were judged. They are that many, the first line too.
pub record HasJudged (text left : List ℕ) (chain : Chain) (count : ℕ) : Type 0 where
  pub rows : List Row
  pub run : Run nothing_yet rows chain
  pub before : AreBefore text rows left
  pub counted : count ≡ length rows + 1

-- In any text of which this was left, what comes before `left` was judged then.
abbrev pub Judges : List ℕ → List ℕ → RowJudge → RowJudge → Type 0
Judges from left old new = (text : List ℕ) → HasJudged text from old.chain old.rows → HasJudged text left new.chain new.rows

-- any text of which this was left has this fault
abbrev pub FailsIn : List ℕ → RowJudge → CsvFault → Type 0
FailsIn from old fault = (text : List ℕ) → HasJudged text from old.chain old.rows → IsTextFault text fault
