-- What holds of the rows of records and chains, and of texts.
use Rattle.std.specs.Prelude.{◌≡◌, ◌++◌, ◌≤◌, ◌^◌, ℕ, List, Result, length}
use Rattle.fit_base.specs.Numbers.{IsBytes}
use Rattle.std.specs.Global.{Global}
use Rattle.fit_record.specs.declared.file.FitFile.{FitFile}
use Rattle.fit_record.specs.declared.message.Record.{Record}
use Rattle.fit_record.specs.Files.{IsChain, chain_limit}
use Rattle.fit_record.specs.Records.{Fits}
use Rattle.fit_profile.specs.Looks.{known}
use Rattle.fit_cells.specs.Rows.{Row, RowsOfText, csv_text}
use Rattle.fit_csv.specs.declared.fault.CsvFault.{CsvFault}
use Rattle.fit_rows.specs.ChainRows.{chain_rows, record_rows}
use Rattle.fit_csv.specs.FromText.{IsTextFinding, IsTextOf}
use Rattle.fit_csv.specs.Judged.{IsChainOfRows, RecordInRange}

-- After the same records, a record that fits and its rows determine each other, and no record's rows begin another's.
abbrev pub RecordsHaveOwnRows : Type 0
RecordsHaveOwnRows =
    (before : List (Record Global)) (r s : Record Global) (x y : List Row) → Fits (known before) r → RecordInRange r → Fits (known before) s → RecordInRange s →
    record_rows before r ++ x ≡ record_rows before s ++ y → (r ≡ s) × (record_rows before r ≡ record_rows before s)

-- a chain has rows of its own
abbrev pub ChainsHaveOwnRows : Type 0
ChainsHaveOwnRows = (a b : List (FitFile Global)) → IsChainOfRows a → IsChainOfRows b → chain_rows a ≡ chain_rows b → a ≡ b

-- A chain with bytes is one that rows can give, so that it has rows of its own.
abbrev pub ChainsAreOfRows : Type 0
ChainsAreOfRows = (files : List (FitFile Global)) (bytes : List ℕ) → IsBytes bytes → IsChain chain_limit files bytes → IsChainOfRows files

-- A text has one finding at most: the bytes of one chain, or one fault with one row and column.
abbrev pub TextsHaveOneFinding : Type 0
TextsHaveOneFinding = (text : List ℕ) (a b : Result (List ℕ) CsvFault) → IsTextFinding text a → IsTextFinding text b → a ≡ b

-- the text of the rows of a chain, of any length, reads as these rows
abbrev pub ChainsReadBack : Type 0 → Type 0
ChainsReadBack A = (files : List (FitFile A)) → RowsOfText (csv_text (chain_rows files)) (chain_rows files)

-- the text of the rows of a chain is one of that chain, if it isn't too long
abbrev pub TextsComeBack : Type 0
TextsComeBack = (files : List (FitFile Global)) (bytes : List ℕ) → IsBytes bytes → IsChain chain_limit files bytes
    → length (csv_text (chain_rows files)) ≤ 2 ^ 62
    → IsTextOf (csv_text (chain_rows files)) files bytes
