-- Rows that can be read at a place, and why others can't. No public contract names these.
use Rattle.std.specs.Prelude.{◌≡◌, ◌⊎◌, ◌<◌, ◌≤◌, ◌^◌, ℕ, List, [], Option, codes, decimal, IfSome, IsSome, option_map, unwrap_or}
use Rattle.std.specs.Global.{Global}
use Rattle.fit_base.specs.declared.items.Items.{Items}
use Rattle.fit_base.specs.Fields.{HasShape}
use Rattle.fit_frame.specs.declared.header.HeaderSum.{HeaderSum}
use Rattle.fit_frame.specs.declared.header.HeaderSum.TheVariants.{Absent, Zero, True}
use Rattle.fit_record.specs.declared.message.Values.{Values}
use Rattle.fit_record.specs.declared.message.Record.{Record}
use Rattle.fit_record.specs.Environment.{defined_at}
use Rattle.fit_record.specs.Records.{DataHeaderFits}
use Rattle.fit_profile.specs.Profile.{Meaning}
use Rattle.fit_profile.specs.Looks.{known}
use Rattle.fit_profile.specs.Times.{header_time, previous_time}
use Rattle.fit_cells.specs.Cells.{cell}
use Rattle.fit_cells.specs.Rows.{Cell, Row}
use Rattle.fit_csv.specs.Judged.{IsBadCell, MayBeOfKind}
use Rattle.fit_rows.specs.ChainRows.{data_row, end_row, row}
use Rattle.fit_texts.specs.Words.{optional_number, order_word}
use Rattle.fit_csv.specs.declared.from.definition.DefinitionHead.{DefinitionHead}
use Rattle.fit_csv.specs.declared.from.misfit.Misfit.{Misfit}
use Rattle.fit_csv.specs.declared.from.misfit.Misfit.TheVariants.{Kind, Cell as BadCell, NoMemory}

-- why the row can't stand where these can: no row has its kind, or one of its other cells is bad
abbrev pub IsMisfit : (Row → Type 0) → Row → Misfit → Type 0
IsMisfit CanStand r Kind = (other : Row) → CanStand other → MayBeOfKind other r → ⊥
IsMisfit CanStand r (BadCell column) = IsBadCell CanStand r column
IsMisfit CanStand r NoMemory = Unit {0}

-- the same of a row whose kind is right
abbrev pub IsCellFault : (Row → Type 0) → Row → Misfit → Type 0
IsCellFault CanStand r Kind = ⊥
IsCellFault CanStand r (BadCell column) = IsBadCell CanStand r column
IsCellFault CanStand r NoMemory = Unit {0}

-- three numbers of a byte each after the kind, and nothing after them
abbrev pub IsRowOfThree : Cell → Row → Type 0
IsRowOfThree kind r = (a : ℕ) × (b : ℕ) × (c : ℕ) × (a < 2 ^ 8) × (b < 2 ^ 8) × (c < 2 ^ 8) × (r ≡ row kind (decimal a) (decimal b) (decimal c) [] [] [])

-- the numbers of the first row of a definition have room in their bits
pub record HeadInRange (h : DefinitionHead) : Type 0 where
  pub local : h.local < 16
  pub reserved : h.reserved < 2 ^ 8
  pub global : h.global < 2 ^ 16
  pub fields : h.fields < 2 ^ 8
  pub dev : IfSome h.dev (λ n. n < 2 ^ 8)

-- the first row of a definition, by the numbers of its fields and developer fields
abbrev pub head_row : DefinitionHead → Row
head_row h = row (codes "def") (decimal h.local) (decimal h.reserved) (order_word h.order) (decimal h.global) (decimal h.fields) (optional_number h.dev)

abbrev pub IsHeadRow : Row → Type 0
IsHeadRow r = (h : DefinitionHead) × HeadInRange h × (r ≡ head_row h)

-- ---- data messages after records, latest first

-- the global message number of a local message type
abbrev pub global_at : List (Record Global) → ℕ → ℕ
global_at before local = unwrap_or (option_map (λ p. p.definition.global) (defined_at (known before) local)) 0

-- a data message of which the first row has come
pub record IsMessageStart (before : List (Record Global)) (v : Values Global) : Type 0 where
  pub header : DataHeaderFits v.local v.offset
  pub defined : IsSome (defined_at (known before) v.local)
  pub no_fields : v.fields ≡ []
  pub no_dev_fields : v.dev ≡ []

-- its first row
abbrev pub message_row : List (Record Global) → Values Global → Row
message_row before v = data_row v (global_at before v.local) (header_time (previous_time before) v.offset)

abbrev pub IsMessageRow : List (Record Global) → Row → Type 0
IsMessageRow before r = (v : Values Global) × IsMessageStart before v × (r ≡ message_row before v)

-- a file may end there too
abbrev pub IsMessageOrEnd : List (Record Global) → Row → Type 0
IsMessageOrEnd before r = IsMessageRow before r ⊎ (r ≡ end_row)

-- a row of a field: label, items, unit
abbrev pub IsValueRow : Cell → Cell → ℕ → ℕ → Option Meaning → Cell → Row → Type 0
IsValueRow kind label code size info unit r = (i : Items Global) × HasShape code size i × (r ≡ row kind label (cell code info i) unit [] [] [])

-- ---- headers

abbrev pub IsHeaderSize : ℕ → Type 0
IsHeaderSize n = (n ≡ 12) ⊎ ((14 ≤ n) × (n < 2 ^ 8))

-- headers of twelve bytes have no sum, the others have one
abbrev pub HasSum : ℕ → HeaderSum → Type 0
HasSum size Absent = size ≡ 12
HasSum size Zero = 14 ≤ size
HasSum size True = 14 ≤ size
