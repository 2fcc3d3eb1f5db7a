-- What the code's walks over a section of a file leave in its fields. No public contract names these.
use Rattle.std.specs.Prelude.{◌≡◌, ℕ, ◌+◌, ◌==◌, ◌<◌, ◌≤◌, ◌⊎◌, true, false, if◌then◌else◌, List, [], ◌++◌, take, length, slice_index, Some, None}
use Rattle.std.specs.Prelude.{Option, Result, Ok, Err}
use Rattle.fit_sum.specs.Checksum.{checksum}
use Rattle.fit_frame.specs.declared.header.Header.{Header as FileHeader}
use Rattle.fit_frame.specs.declared.reason.Reason.TheVariants.{TooManyFiles}
use Rattle.fit_frame.specs.Beginning.{Seen, IsFileHeader, RefusesByte}
use Rattle.fit_record.specs.declared.message.Record.{Record}
use Rattle.fit_record.specs.Environment.{Environment, empty_environment}
use Rattle.fit_record.specs.Files.{chain_limit}
use Rattle.fit_step.specs.declared.position.Position.{Position}
use Rattle.fit_step.specs.declared.stop.Stop.{Stop}
use Rattle.fit_step.specs.declared.stop.Stop.TheVariants.{Refused}
use Rattle.fit_step.specs.InProgress.{Reads}
use Rattle.fit_step.specs.Places.{Begins}
use Rattle.fit_chain.specs.declared.event.Event.{Event as Answer}
use Rattle.fit_chain.specs.declared.event.Event.TheVariants as answers
use Rattle.fit_decode.specs.declared.section.Section.{Section}
use Rattle.fit_decode.specs.declared.section.Section.TheVariants.{Header, Data, ClosingSum}
use Rattle.fit_decode.specs.declared.section.Stage.{Stage}
use Rattle.fit_decode.specs.declared.section.Part.{Part}
use Rattle.fit_decode.specs.declared.section.Part.TheVariants as parts
use Rattle.fit_decode.specs.inner.Scans.{IsHeaderPart, HeaderScanned, SumScanned}

-- after a header or a record, by the bytes of data that are to come
abbrev pub section_of : ℕ → Section
section_of room = if room == 0 then ClosingSum else Data

abbrev pub HeaderFed : Stage → List ℕ → List ℕ → Stage → Seen → Position → List ℕ → Option FileHeader → List ℕ → ℕ → Result Part Stop
    → Type 0
HeaderFed old front covered new reader position sum head piece used (Ok parts.More) =
    ((old.files < chain_limit) ⊎ (piece ≡ [])) × HeaderScanned front piece reader used (Ok None) × (sum ≡ covered ++ take used piece) × (new ≡ old)
HeaderFed old front covered new reader position sum head piece used (Ok (parts.Header n)) =
    (h : FileHeader) × (head ≡ Some h) × (old.files < chain_limit) × (0 < used) × (used ≤ length piece) × IsFileHeader h n (front ++ take used piece)
    × (reader ≡ record { bytes = []; refusal = None }) × (sum ≡ covered ++ take used piece)
    × (new ≡ record old { section = section_of n }) × Begins position × (position.room ≡ n)
HeaderFed old front covered new reader position sum head piece used (Err (Refused reason)) =
    ((chain_limit ≤ old.files) × (0 < length piece) × (used ≡ 0) × (reason ≡ TooManyFiles))
    ⊎ ((old.files < chain_limit) × (used < length piece) × IsHeaderPart (front ++ take used piece)
    × RefusesByte (front ++ take used piece) (slice_index piece used) reason)
HeaderFed old front covered new reader position sum head piece used answer = ⊥

abbrev pub DataFed : {A : Type 0} → Stage → Environment A → Position → Option (Record A) → List ℕ → Stage → Environment A → Position → Option (Record A)
    → List ℕ → List ℕ → ℕ → Result (Answer A) Stop → Type 0
DataFed old known before idle covered new env position in_progress sum piece used (Ok answers.More) =
    Reads known before idle env position in_progress piece used (Ok None) × (sum ≡ covered ++ take used piece) × (new ≡ old)
DataFed old known before idle covered new env position in_progress sum piece used (Ok (answers.Item r)) =
    Reads known before idle env position in_progress piece used (Ok (Some r)) × (sum ≡ covered ++ take used piece)
    × (new ≡ record old { section = section_of position.room })
DataFed old known before idle covered new env position in_progress sum piece used (Err stop) =
    Reads known before idle env position in_progress piece used (Err stop) × (sum ≡ covered ++ take used piece) × (new ≡ old)
DataFed old known before idle covered new env position in_progress sum piece used answer = ⊥

abbrev pub SumFed : {A : Type 0} → Stage → Environment A → List ℕ → Stage → Environment A → List ℕ → List ℕ → ℕ → Result (Answer A) Stop → Type 0
SumFed old known covered new env sum piece used (Ok answers.More) =
    SumScanned (checksum covered) old.half piece new.half used (Ok false) × (sum ≡ covered) × (env ≡ known) × (new ≡ record old { half = new.half })
SumFed old known covered new env sum piece used (Ok answers.FileEnd) =
    SumScanned (checksum covered) old.half piece new.half used (Ok true) × (sum ≡ []) × (env ≡ empty_environment)
    × (new ≡ record old { files = old.files + 1; section = Header; half = new.half })
SumFed old known covered new env sum piece used (Err (Refused reason)) =
    SumScanned (checksum covered) old.half piece new.half used (Err reason) × (sum ≡ covered) × (env ≡ known) × (new ≡ record old { half = new.half })
SumFed old known covered new env sum piece used answer = ⊥

-- what is told of the record in its place, and of the header
abbrev pub item_of : {A : Type 0} → Option (Record A) → Answer A
item_of None = answers.More
item_of (Some r) = answers.Item r

abbrev pub header_of : {A : Type 0} → Option FileHeader → ℕ → Answer A
header_of None n = answers.More
header_of (Some h) n = answers.Header h n

-- what an answer of a section tells, where this record and this header are in their places
abbrev pub as_event : {A : Type 0} → Option (Record A) → Option FileHeader → Result Part Stop → Result (Answer A) Stop
as_event placed head (Ok parts.More) = Ok answers.More
as_event placed head (Ok (parts.Header n)) = Ok (header_of head n)
as_event placed head (Ok parts.Record) = Ok (item_of placed)
as_event placed head (Ok parts.FileEnd) = Ok answers.FileEnd
as_event placed head (Err stop) = Err stop

-- which record is in its place then
abbrev pub left_by : {A : Type 0} → Option (Record A) → Result Part Stop → Option (Record A)
left_by placed (Ok parts.Record) = None
left_by placed answer = placed
