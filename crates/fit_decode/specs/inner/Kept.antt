-- What holds of a decoder's fields after the bytes fed. No public contract names these.
use Rattle.std.specs.Prelude.{◌≡◌, ℕ, ◌-◌, ◌<◌, ◌≤◌, false, if◌then◌else◌, List, [], ◌++◌, length, take, slice_index, Option, None, Result, Ok, Err}
use Rattle.std.specs.Prelude.{◌+◌, Some}
use Rattle.fit_sum.specs.Checksum.{checksum}
use Rattle.fit_frame.specs.declared.header.Header.{Header as FileHeader}
use Rattle.fit_frame.specs.declared.reason.Reason.{Reason}
use Rattle.fit_frame.specs.Header.{header_bytes}
use Rattle.fit_frame.specs.Beginning.{Seen as HeaderSeen}
use Rattle.fit_record.specs.declared.file.FitFile.{FitFile}
use Rattle.fit_record.specs.declared.message.Record.{Record}
use Rattle.fit_record.specs.Environment.{Environment, empty_environment, learn_all}
use Rattle.fit_record.specs.Records.{records_bytes}
use Rattle.fit_record.specs.Files.{chain_limit, IsViable}
use Rattle.fit_step.specs.declared.stop.Stop.{Stop}
use Rattle.fit_step.specs.declared.stop.Stop.TheVariants.{Refused, NoMemory}
use Rattle.fit_step.specs.InProgress.{IsInProgress}
use Rattle.fit_step.specs.declared.position.Position.{Position}
use Rattle.fit_decode.specs.declared.section.Section.{Section}
use Rattle.fit_decode.specs.declared.section.Section.TheVariants.{Header, Data, ClosingSum, Latched}
use Rattle.fit_decode.specs.declared.section.Stage.{Stage}
use Rattle.fit_chain.specs.declared.event.Event.{Event as Answer}
use Rattle.fit_chain.specs.declared.event.Event.TheVariants as answers
use Rattle.fit_chain.specs.Progress.{at_header, at_data, HasCome}
use Rattle.fit_chain.specs.Events.{header, item, file_end}
use Rattle.fit_chain.specs.GoingOn.{ChainGoesOn}
use Rattle.fit_chain.specs.Memory.{MayTakeMemory}
use Rattle.fit_chain.specs.Refusals.{IsRefused}
use Rattle.fit_chain.specs.Pieces.{Quiet, Least}
use Rattle.fit_chain.specs.Needs.{missing}
use Rattle.fit_decode.specs.inner.Scans.{half_sum}

-- why a byte was refused, if one was
abbrev pub refusal_of : Section → Option Reason
refusal_of (Latched reason) = Some reason
refusal_of section = None

-- A decoder's fields, but for the count of the bytes: how far they have come, the reader of the header, the
-- bytes that the closing checksum covers so far, what is known, where in a record it is, and the record in progress.
pub record Fields (A : Type 0) : Type 0 where
  pub stage : Stage
  pub reader : HeaderSeen
  pub sum : List ℕ
  pub env : Environment A
  pub position : Position
  pub in_progress : Option (Record A)

-- in a header, or before one
pub record InHeader {A : Type 0} (d : Fields A) (bytes : List ℕ) : Type 0 where
  pub files : List (FitFile A)
  pub come : HasCome files (at_header d.sum) bytes
  pub goes : ChainGoesOn chain_limit files (at_header d.sum)
  pub counted : d.stage.files ≡ length files
  pub whole : d.stage.half ≡ false
  pub read : d.reader ≡ record { bytes = d.sum; refusal = None }
  pub known : d.env ≡ empty_environment
  pub idle : d.in_progress ≡ None

-- in a data section that isn't over
pub record InData {A : Type 0} (d : Fields A) (bytes : List ℕ) : Type 0 where
  pub files : List (FitFile A)
  pub header : FileHeader
  pub size : ℕ
  pub records : List (Record A)
  pub part : List ℕ
  pub come : HasCome files (at_data header size records part) bytes
  pub few : length files < chain_limit
  pub counted : d.stage.files ≡ length files
  pub whole : d.stage.half ≡ false
  pub fresh : d.reader ≡ record { bytes = []; refusal = None }
  pub summed : d.sum ≡ (header_bytes header size ++ records_bytes empty_environment records) ++ part
  pub known : d.env ≡ learn_all empty_environment records
  pub some : 0 < size - length (records_bytes empty_environment records)
  pub in_record : IsInProgress d.env (size - length (records_bytes empty_environment records)) part d.position d.in_progress

-- after a data section
pub record InSum {A : Type 0} (d : Fields A) (bytes : List ℕ) : Type 0 where
  pub files : List (FitFile A)
  pub header : FileHeader
  pub size : ℕ
  pub records : List (Record A)
  pub come : HasCome files (at_data header size records (half_sum (checksum d.sum) d.stage.half)) bytes
  pub few : length files < chain_limit
  pub counted : d.stage.files ≡ length files
  pub fresh : d.reader ≡ record { bytes = []; refusal = None }
  pub summed : d.sum ≡ header_bytes header size ++ records_bytes empty_environment records
  pub known : d.env ≡ learn_all empty_environment records
  pub over : size - length (records_bytes empty_environment records) ≡ 0
  pub idle : d.in_progress ≡ None

abbrev pub HoldsAt : {A : Type 0} → Section → Fields A → List ℕ → Type 0
HoldsAt Header d bytes = InHeader d bytes
HoldsAt Data d bytes = InData d bytes
HoldsAt ClosingSum d bytes = InSum d bytes
HoldsAt (Latched reason) d bytes = (d.env ≡ empty_environment) × (d.in_progress ≡ None)

-- The fields are those after these bytes. After a refusal no more is said than that nothing is kept.
abbrev pub Holds : {A : Type 0} → Fields A → List ℕ → Type 0
Holds d bytes = HoldsAt d.stage.section d bytes

-- What the use of that many bytes of a piece told.
abbrev pub Advanced : {A : Type 0} → List ℕ → List ℕ → ℕ → Result (Answer A) Stop → Type 0
Advanced {A} bytes piece used (Ok answers.More) = (used ≡ length piece) × Quiet A bytes piece used
Advanced {A} bytes piece used (Ok (answers.Header h n)) = (0 < used) × (used ≤ length piece) × Least A bytes piece used (header h n)
Advanced {A} bytes piece used (Ok (answers.Item r)) = (0 < used) × (used ≤ length piece) × Least A bytes piece used (item r)
Advanced {A} bytes piece used (Ok answers.FileEnd) = (0 < used) × (used ≤ length piece) × Least A bytes piece used file_end
Advanced {A} bytes piece used (Err (Refused reason)) =
    (used < length piece) × Quiet A bytes piece used × IsRefused A chain_limit (bytes ++ take used piece) (slice_index piece used) reason
Advanced {A} bytes piece used (Err NoMemory) =
    (used < length piece) × Quiet A bytes piece used × IsViable A chain_limit (bytes ++ take (used + 1) piece)
    × MayTakeMemory A (bytes ++ take used piece) (slice_index piece used)

-- no byte was refused
abbrev pub NotRefused : {A : Type 0} → Result (Answer A) Stop → Type 0
NotRefused (Err (Refused reason)) = ⊥
NotRefused answer = Unit {0}

-- What the bytes used tell, and that a chain begins with them; and unless a byte was refused, the fields are those after them, and
-- the next byte is awaited.
pub record NextAnswer {A : Type 0} (d : Fields A) (bytes piece : List ℕ) (used : ℕ) (answer : Result (Answer A) Stop) : Type 0 where
  pub told : Advanced bytes piece used answer
  pub viable : IsViable A chain_limit (bytes ++ take used piece)
  pub holds : NotRefused answer → Holds d (bytes ++ take used piece)
  pub fresh : NotRefused answer → refusal_of d.stage.section ≡ None

-- How many bytes are to come, by the fields; front is what there is of a header.
abbrev pub to_come_in : Section → Stage → List ℕ → ℕ → ℕ
to_come_in Header s front room = missing {A = Unit {0}} s.files (at_header front)
to_come_in Data s front room = room + 2
to_come_in ClosingSum s front room = if s.half then 1 else 2
to_come_in (Latched reason) s front room = 0

abbrev pub to_come : Stage → List ℕ → ℕ → ℕ
to_come s front room = to_come_in s.section s front room
