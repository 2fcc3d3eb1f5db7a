-- What holds of what has been read of a chain, and the rows that it was read from. No public contract names these.
use Rattle.std.specs.Prelude.{◌≡◌, ◌<◌, ◌≤◌, ℕ, false, List, [], ◌∷◌, ◌++◌, length, map, flat_map, reverse, Option, Some, None, IsSomeAnd}
use Rattle.std.specs.Global.{Global}
use Rattle.std.specs.List.{AllByRecursion}
use Rattle.fit_base.specs.declared.items.Items.{Items}
use Rattle.fit_base.specs.Fields.{HasShape}
use Rattle.fit_record.specs.declared.environment.Defined.{Defined}
use Rattle.fit_record.specs.declared.message.Record.{Record}
use Rattle.fit_record.specs.declared.message.Values.{Values}
use Rattle.fit_record.specs.Environment.{defined_at, empty_environment}
use Rattle.fit_record.specs.Files.{chain_limit}
use Rattle.fit_record.specs.Records.{AllFit, DataHeaderFits, dev_layout, layout}
use Rattle.fit_profile.specs.Looks.{known}
use Rattle.fit_rows.specs.ChainRows.{data_rows, dev_def_row, field_def_row, file_row, file_rows, records_rows}
use Rattle.fit_csv.specs.Judged.{DevDefInRange, FieldDefInRange, HeaderInRange, IsFileOfRows, RecordInRange}
use Rattle.fit_csv.specs.inner.Misfits.{HeadInRange, head_row}
use Rattle.fit_csv.specs.inner.Progress.{dev_total, is_whole, is_whole_message}
use Rattle.fit_cells.specs.Rows.{Row}
use Rattle.fit_csv.specs.declared.from.chain.Chain.{Chain}
use Rattle.fit_csv.specs.declared.from.definition.OpenDefinition.{OpenDefinition}
use Rattle.fit_csv.specs.declared.from.open_file.OpenFile.{OpenFile}
use Rattle.fit_csv.specs.declared.from.open_file.Part.{Part}
use Rattle.fit_csv.specs.declared.from.open_file.Part.TheVariants.{Nothing, Definition, Message}

-- a definition of which some rows have come
pub record IsSoundDefinition (o : OpenDefinition) : Type 0 where
  pub head : HeadInRange o.head
  pub fields : AllByRecursion FieldDefInRange o.fields
  pub dev_fields : AllByRecursion DevDefInRange o.dev
  pub few : length o.fields ≤ o.head.fields
  pub few_dev_fields : length o.dev ≤ dev_total o.head
  pub in_order : length o.fields < o.head.fields → o.dev ≡ []

-- the first fields have the shapes that their codes and sizes give
abbrev pub HaveShapeSoFar : List (ℕ × ℕ) → List (Items Global) → Type 0
HaveShapeSoFar fields [] = Unit {0}
HaveShapeSoFar (f ∷ fields) (i ∷ items) = HasShape f.0 f.1 i × HaveShapeSoFar fields items
HaveShapeSoFar [] (i ∷ items) = ⊥

-- a data message of this definition of which some rows have come
pub record IsSoundMessage (v : Values Global) (p : Defined Global) : Type 0 where
  pub header : DataHeaderFits v.local v.offset
  pub fields : HaveShapeSoFar (layout p) v.fields
  pub dev_fields : HaveShapeSoFar (dev_layout p) v.dev
  pub in_order : length v.fields < length p.definition.fields → v.dev ≡ []

-- some rows of a record, or all
abbrev pub IsSoundSoFar : List (Record Global) → Part → Type 0
IsSoundSoFar before Nothing = Unit {0}
IsSoundSoFar before (Definition o) = IsSoundDefinition o
IsSoundSoFar before (Message v) = IsSomeAnd (defined_at (known before) v.local) (IsSoundMessage v)

abbrev pub IsPartUnfinished : List (Record Global) → Part → Type 0
IsPartUnfinished before Nothing = Unit {0}
IsPartUnfinished before (Definition o) = is_whole o ≡ false
IsPartUnfinished before (Message v) = is_whole_message before v ≡ false

-- some rows of a record, and not all
abbrev pub IsSoundPart : List (Record Global) → Part → Type 0
IsSoundPart before part = IsSoundSoFar before part × IsPartUnfinished before part

pub record IsSoundFile (f : OpenFile) : Type 0 where
  pub header : HeaderInRange f.header
  pub same_records : f.before ≡ reverse f.records
  pub fit : AllFit empty_environment f.records
  pub numbers : AllByRecursion RecordInRange f.records
  pub part : IsSoundPart f.before f.part

-- there may be one more file
abbrev pub IsSoundCurrent : ℕ → Option OpenFile → Type 0
IsSoundCurrent count None = count ≤ chain_limit
IsSoundCurrent count (Some f) = (count < chain_limit) × IsSoundFile f

pub record IsSoundChain (c : Chain) : Type 0 where
  pub files : AllByRecursion IsFileOfRows c.files
  pub current : IsSoundCurrent (length c.files) c.current

-- ---- rows

abbrev pub open_rows : OpenDefinition → List Row
open_rows o = head_row o.head ∷ map field_def_row o.fields ++ map dev_def_row o.dev

abbrev pub part_rows : List (Record Global) → Part → List Row
part_rows before Nothing = []
part_rows before (Definition o) = open_rows o
part_rows before (Message v) = data_rows before v

abbrev pub open_file_rows : OpenFile → List Row
open_file_rows f = file_row f.header ∷ records_rows [] f.records ++ part_rows f.before f.part

abbrev pub current_rows : Option OpenFile → List Row
current_rows None = []
current_rows (Some f) = open_file_rows f

-- the rows after the first line
abbrev pub rows_so_far : Chain → List Row
rows_so_far c = flat_map file_rows c.files ++ current_rows c.current
