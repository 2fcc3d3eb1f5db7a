-- Which row can stand next, by the place that the rows before it have come to: a table in the order of docs/CSV.md. That just these
-- rows can follow is the law `rows_that_follow`.
use Rattle.std.specs.Prelude.{◌≡◌, ◌<◌, ◌≤◌, ◌⊎◌, ◌↔◌, ◌+◌, ◌-◌, ◌∷◌, ◌++◌, [], ℕ, List, length, reverse, slice_get, take, IsSomeAnd}
use Rattle.std.specs.Global.{Global}
use Rattle.fit_record.specs.declared.definition.MessageDef.{MessageDef}
use Rattle.fit_record.specs.declared.environment.Defined.{Defined}
use Rattle.fit_record.specs.declared.file.FitFile.{FitFile}
use Rattle.fit_record.specs.declared.message.Record.{Record}
use Rattle.fit_record.specs.declared.message.Record.TheVariants.{Define, Values as Data}
use Rattle.fit_record.specs.Environment.{defined_at, dev_defs}
use Rattle.fit_record.specs.Files.{chain_limit}
use Rattle.fit_record.specs.Records.{Fits}
use Rattle.fit_profile.specs.Looks.{known}
use Rattle.fit_cells.specs.Rows.{Row, first_line}
use Rattle.fit_rows.specs.ChainRows.{chain_rows, file_row, record_rows, records_rows}
use Rattle.fit_csv.specs.Judged.{CanFollow, IsChainOfRows, MayGoOn, RecordInRange}
use Rattle.fit_csv.specs.RowKinds.{IsDataRow, IsDefinitionRow, IsDevDefRow, IsDevRow, IsEndRow, IsFieldDefRow, IsFieldRow, IsFileRow, naming_at}

-- A place in a chain: after whole files; in one more file, after its header and whole records; or in one more record of that file,
-- after the first row and those of this many of its fields.
pub data Place : Type 0 where
  between_files : List (FitFile Global) → Place
  between_records : List (FitFile Global) → FitFile Global → Place
  in_record : List (FitFile Global) → FitFile Global → Record Global → ℕ → Place

-- what comes before the next record of a file, latest first
abbrev pub records_before : FitFile Global → List (Record Global)
records_before f = reverse f.records

-- There is such a place in a chain that rows can give.
abbrev pub IsPlace : Place → Type 0
IsPlace (between_files files) = IsChainOfRows files
IsPlace (between_records files f) = IsChainOfRows (files ++ f ∷ [])
IsPlace (in_record files f this come) =
    IsChainOfRows (files ++ f ∷ []) × Fits (known (records_before f)) this × RecordInRange this
    × (come + 1 < length (record_rows (records_before f) this))

-- the rows of a file up to the next record
abbrev pub rows_before : FitFile Global → List Row
rows_before f = file_row f.header ∷ records_rows [] f.records

-- the rows up to a place, the first line included
abbrev pub rows_to : Place → List Row
rows_to (between_files files) = chain_rows files
rows_to (between_records files f) = chain_rows files ++ rows_before f
rows_to (in_record files f this come) = chain_rows files ++ (rows_before f ++ take (come + 1) (record_rows (records_before f) this))

-- in a definition: `fdef` until there is one for each field, and then `ddef`
abbrev pub CanComeInDefinition : MessageDef Global → ℕ → Row → Type 0
CanComeInDefinition d come r = ((come < length d.fields) × IsFieldDefRow r) ⊎ ((length d.fields ≤ come) × IsDevDefRow r)

-- in a data message of this definition: `field` with items of the next field, and after the last field `dev` with items of the next
-- developer field
abbrev pub CanComeInMessage : List (Record Global) → ℕ → Defined Global → ℕ → Row → Type 0
CanComeInMessage before local p come r =
    IsSomeAnd (slice_get p.definition.fields come) (λ f. IsFieldRow p.definition.global f r)
    ⊎ ((length p.definition.fields ≤ come)
    × IsSomeAnd (slice_get (dev_defs p.definition.dev) (come - length p.definition.fields)) (λ f.
    IsSomeAnd (slice_get p.dev_codes (come - length p.definition.fields)) (λ code.
    IsDevRow f code (naming_at before local (come - length p.definition.fields)) r)))

abbrev pub CanComeInRecord : List (Record Global) → Record Global → ℕ → Row → Type 0
CanComeInRecord before (Define d) come r = CanComeInDefinition d come r
CanComeInRecord before (Data v) come r = IsSomeAnd (defined_at (known before) v.local) (λ p. CanComeInMessage before v.local p come r)

-- Between files there comes `file`, unless there are as many files as a chain may have; after a whole record `def`, `data` or `end`;
-- and in a record the next of its rows.
abbrev pub CanCome : Place → Row → Type 0
CanCome (between_files files) r = (length files < chain_limit) × IsFileRow r
CanCome (between_records files f) r = IsDefinitionRow r ⊎ (IsDataRow (records_before f) r ⊎ IsEndRow r)
CanCome (in_record files f this come) r = CanComeInRecord (records_before f) this come r

-- Rows that may go on come to a place, and the rows that can follow are those of the table.
abbrev pub RowsThatFollow : Type 0
RowsThatFollow = (rows : List Row) → MayGoOn (first_line ∷ rows)
    → (place : Place) × IsPlace place × (first_line ∷ rows ≡ rows_to place) × ((r : Row) → CanFollow (first_line ∷ rows) r ↔ CanCome place r)
