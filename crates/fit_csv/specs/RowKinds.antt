-- The kinds of rows with the ranges of their cells, in the order of docs/CSV.md.
use Rattle.std.specs.Prelude.{◌≡◌, ◌<◌, ◌^◌, ℕ, List, Option, codes, decimal, IfSome, IsSomeAnd, slice_get, unwrap_or}
use Rattle.std.specs.Global.{Global}
use Rattle.fit_base.specs.declared.items.Items.{Items}
use Rattle.fit_base.specs.declared.number.Order.{Order}
use Rattle.fit_base.specs.Fields.{HasShape}
use Rattle.fit_frame.specs.declared.header.Header.{Header}
use Rattle.fit_record.specs.declared.definition.FieldDef.{FieldDef}
use Rattle.fit_record.specs.declared.definition.DevDef.{DevDef}
use Rattle.fit_record.specs.declared.message.Record.{Record}
use Rattle.fit_record.specs.declared.message.Values.{Values}
use Rattle.fit_record.specs.Environment.{defined_at}
use Rattle.fit_record.specs.Records.{DataHeaderFits}
use Rattle.fit_profile.specs.Described.{Naming, namings_at, nameless}
use Rattle.fit_profile.specs.Looks.{known}
use Rattle.fit_profile.specs.Times.{header_time, previous_time}
use Rattle.fit_cells.specs.Rows.{Row}
use Rattle.fit_rows.specs.ChainRows.{data_row, dev_def_row, dev_row, end_row, field_row, file_row, field_def_row, row}
use Rattle.fit_texts.specs.Words.{optional_number, order_word}
use Rattle.fit_csv.specs.Judged.{DevDefInRange, FieldDefInRange, HeaderInRange}

-- `file`: a header
abbrev pub IsFileRow : Row → Type 0
IsFileRow r = (h : Header) × HeaderInRange h × (r ≡ file_row h)

-- `def`: local message type, reserved byte, byte order, global message number, and how many fields and developer fields there are;
-- the last cell may be empty
abbrev pub IsDefinitionRow : Row → Type 0
IsDefinitionRow r =
    (local : ℕ) × (reserved : ℕ) × (order : Order) × (global : ℕ) × (fields : ℕ) × (dev : Option ℕ)
    × (local < 16) × (reserved < 2 ^ 8) × (global < 2 ^ 16) × (fields < 2 ^ 8) × IfSome dev (λ n. n < 2 ^ 8)
    × (r ≡ row (codes "def") (decimal local) (decimal reserved) (order_word order) (decimal global) (decimal fields) (optional_number dev))

-- `fdef`: number, size and base type code of a field, each one of a byte
abbrev pub IsFieldDefRow : Row → Type 0
IsFieldDefRow r = (f : FieldDef) × FieldDefInRange f × (r ≡ field_def_row f)

-- `ddef`: number, size and developer data index of a developer field, each one of a byte
abbrev pub IsDevDefRow : Row → Type 0
IsDevDefRow r = (f : DevDef) × DevDefInRange f × (r ≡ dev_def_row f)

-- `data`: a local message type that is defined, a time offset that it can have, or none, and the message and the time that follow from
-- these and from the records before it in its file, latest first
abbrev pub IsDataRow : List (Record Global) → Row → Type 0
IsDataRow before r =
    (v : Values Global) × DataHeaderFits v.local v.offset
    × IsSomeAnd (defined_at (known before) v.local) (λ p. r ≡ data_row v p.definition.global (header_time (previous_time before) v.offset))

-- `field`: items of the shape of this field of a message, with the name and the unit that the field has
abbrev pub IsFieldRow : ℕ → FieldDef → Row → Type 0
IsFieldRow global f r = (i : Items Global) × HasShape f.code f.size i × (r ≡ field_row global f i)

-- `dev`: items of the shape of this developer field of this code, with this name and this unit
abbrev pub IsDevRow : DevDef → ℕ → Naming → Row → Type 0
IsDevRow f code naming r = (i : Items Global) × HasShape code f.size i × (r ≡ dev_row f code naming i)

-- the name and the unit of the developer field at this place of a message of a local message type
abbrev pub naming_at : List (Record Global) → ℕ → ℕ → Naming
naming_at before local place = unwrap_or (slice_get (namings_at before local) place) nameless

-- `end`
abbrev pub IsEndRow : Row → Type 0
IsEndRow r = r ≡ end_row
