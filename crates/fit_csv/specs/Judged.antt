-- Which rows can stand where, and the first cell of a row that can't. A row can stand where some chain's rows go on with it; which
-- rows these are, kind by kind, says the table of Follows.antt, with the law `rows_that_follow`.
use Rattle.std.specs.Prelude.{◌≡◌, ◌⊎◌, ◌<◌, ◌≤◌, ◌+◌, ◌-◌, ◌^◌, ℕ, List, [], ◌∷◌, ◌++◌, length, All, codes, take}
use Rattle.std.specs.Global.{Global}
use Rattle.std.specs.List.{AllByRecursion}
use Rattle.fit_frame.specs.declared.header.Header.{Header as FileHeader}
use Rattle.fit_frame.specs.Header.{FormFits}
use Rattle.fit_record.specs.declared.definition.DevDef.{DevDef}
use Rattle.fit_record.specs.declared.definition.FieldDef.{FieldDef}
use Rattle.fit_record.specs.declared.definition.MessageDef.{MessageDef}
use Rattle.fit_record.specs.declared.file.FitFile.{FitFile}
use Rattle.fit_record.specs.declared.message.Record.{Record}
use Rattle.fit_record.specs.declared.message.Record.TheVariants.{Define, Values as Data}
use Rattle.fit_record.specs.Environment.{dev_defs, empty_environment}
use Rattle.fit_record.specs.Files.{chain_limit}
use Rattle.fit_record.specs.Records.{AllFit}
use Rattle.fit_rows.specs.ChainRows.{chain_rows}
use Rattle.csv.specs.Reading.{Reached, default_config, strip_bom}
use Rattle.csv.specs.declared.parser.State.{State}
use Rattle.csv.specs.declared.parser.State.TheVariants as st
use Rattle.fit_cells.specs.Rows.{Row, RowsOfText, first_line}
use Rattle.fit_csv.specs.declared.fault.CsvFault.{CsvFault}
use Rattle.fit_csv.specs.declared.fault.CsvFault.TheVariants.{BadCell, BadRow}

-- Two rows are the same in that many first cells.
abbrev pub Agree : ℕ → Row → Row → Type 0
Agree count a b = take count a ≡ take count b

-- The second row may have the kind of the first one, as its first cell says it. A data message may stand where a file may
-- end, whatever is defined: so `data,3` where local message type 3 isn't defined is refused for its second column, also where
-- nothing is defined and no row of a data message can stand.
abbrev pub MayBeOfKind : Row → Row → Type 0
MayBeOfKind other r = Agree 1 other r ⊎ (Agree 1 other (codes "end" ∷ []) × Agree 1 r (codes "data" ∷ []))

-- No row that can stand there has the same cells up to this column, counted from 1; but some row has in the columns before it.
pub record IsBadCell (CanStand : Row → Type 0) (r : Row) (column : ℕ) : Type 0 where
  pub after_kind : 2 ≤ column
  pub bad : (other : Row) → CanStand other → Agree column other r → ⊥
  pub before : (other : Row) × CanStand other × (Agree (column - 1) other r ⊎ ((column ≡ 2) × MayBeOfKind other r))

-- ---- numbers in their ranges

-- the header has the form of one, and its numbers have the width of their places
pub record HeaderInRange (h : FileHeader) : Type 0 where
  pub form : FormFits h
  pub size : h.size < 2 ^ 8
  pub profile : h.profile < 2 ^ 16
  pub rest : All (λ b. b < 2 ^ 8) h.rest.items

-- each number of a field is one of a byte
pub record FieldDefInRange (f : FieldDef) : Type 0 where
  pub number : f.number < 2 ^ 8
  pub size : f.size < 2 ^ 8
  pub code : f.code < 2 ^ 8

pub record DevDefInRange (f : DevDef) : Type 0 where
  pub number : f.number < 2 ^ 8
  pub size : f.size < 2 ^ 8
  pub index : f.index < 2 ^ 8

-- each number of a definition has the width of its place, but for those that `Fits` speaks of
pub record DefinitionInRange {A : Type 0} (d : MessageDef A) : Type 0 where
  pub reserved : d.reserved < 2 ^ 8
  pub fields : AllByRecursion FieldDefInRange d.fields
  pub dev_fields : AllByRecursion DevDefInRange (dev_defs d.dev)

abbrev pub RecordInRange : {A : Type 0} → Record A → Type 0
RecordInRange (Define d) = DefinitionInRange d
RecordInRange (Data v) = Unit {0}

-- ---- texts that may go on

-- A file that rows can give. It is well-formed but for its length: how much data there is doesn't matter, nor whether a
-- checksum is 0.
pub record IsFileOfRows {A : Type 0} (f : FitFile A) : Type 0 where
  pub header : HeaderInRange f.header
  pub records : AllFit empty_environment f.records
  pub numbers : AllByRecursion RecordInRange f.records

-- That many files that rows can give may follow one another.
abbrev pub IsChainOfRows : {A : Type 0} → List (FitFile A) → Type 0
IsChainOfRows files = (length files ≤ chain_limit) × AllByRecursion IsFileOfRows files

-- Some rows after these make them the rows of such a chain.
abbrev pub MayGoOn : List Row → Type 0
MayGoOn rows = (files : List (FitFile Global)) × (more : List Row) × IsChainOfRows files × (chain_rows files ≡ rows ++ more)

-- The row can stand after these.
abbrev pub CanFollow : List Row → Row → Type 0
CanFollow rows r = MayGoOn (rows ++ r ∷ [])

-- ---- what is wrong with a text

-- The text begins with these rows.
abbrev pub FirstRows : List ℕ → List Row → Type 0
FirstRows text rows = (state : State) × (left : List ℕ) × Reached default_config st.StartRecord (strip_bom text) rows state left

-- These rows are all those of a chain, which has a file at least.
abbrev pub AreWhole : List Row → Type 0
AreWhole rows = (files : List (FitFile Global)) × IsChainOfRows files × (0 < length files) × (rows ≡ chain_rows files)

-- The rows of the text are those of these files, one at least, as a chain.
abbrev pub AreFilesOf : List ℕ → List (FitFile Global) → Type 0
AreFilesOf text files = RowsOfText text (chain_rows files) × IsChainOfRows files × (0 < length files)

-- What is wrong with the row of this number where these can stand: it hasn't seven cells, or none of its kind can stand there,
-- or one of its cells is bad.
abbrev pub IsRowFault : (Row → Type 0) → Row → ℕ → CsvFault → Type 0
IsRowFault CanStand r number (BadRow row) = (row ≡ number) × ((length r ≡ 7 → ⊥) ⊎ ((other : Row) → CanStand other → MayBeOfKind other r → ⊥))
IsRowFault CanStand r number (BadCell row column) = (row ≡ number) × (length r ≡ 7) × IsBadCell CanStand r column
IsRowFault CanStand r number _ = ⊥

-- The rows before it may go on, and the next row is the first that can't stand where it is.
pub record IsRefusedRow (text : List ℕ) (fault : CsvFault) : Type 0 where
  pub front : List Row
  pub this : Row
  pub read : FirstRows text (front ++ this ∷ [])
  pub some : 0 < length front
  pub begins : MayGoOn front
  pub wrong : IsRowFault (CanFollow front) this (length front + 1) fault

-- The rows may go on and aren't whole, and the text ends.
pub record IsCutOff (text : List ℕ) (row : ℕ) : Type 0 where
  pub rows : List Row
  pub read : RowsOfText text rows
  pub some : 0 < length rows
  pub begins : MayGoOn rows
  pub unfinished : AreWhole rows → ⊥
  pub place : row ≡ length rows + 1

-- The first row isn't the first line, or there is none.
abbrev pub HasNoHeader : List ℕ → Type 0
HasNoHeader text = RowsOfText text [] ⊎ ((r : Row) × FirstRows text (r ∷ []) × (r ≡ first_line → ⊥))
