-- What the calls for C answer: a status, and where and why.
use Rattle.std.specs.Prelude.{◌≡◌, ◌⊎◌, ℕ, Bool, false, List, [], Option, Some, Result, Ok, Err, IfErr, IfOk, OnOk}
use Rattle.std.specs.declared.alloc.Global.{Global}
use Rattle.std.specs.Io.KnownBytes.{Consumes}
use Rattle.fit_frame.specs.declared.reason.Reason.{Reason}
use Rattle.fit_frame.specs.declared.reason.Reason.TheVariants.{HeaderSize, Protocol, NoFit, Signature, HeaderSum, ReservedBit, UndefinedLocal, Overrun}
use Rattle.fit_frame.specs.declared.reason.Reason.TheVariants.{Architecture, FileSum, TooManyFiles}
use Rattle.fit_chain.specs.declared.event.Fault.{Fault}
use Rattle.fit_chain.specs.declared.event.Fault.TheVariants as faults
use Rattle.fit_chain.specs.Checks.{AreFiles, IsFaultOf, LacksMemoryAt}
use Rattle.fit_chain.specs.Events.{Event}
use Rattle.fit_report.specs.declared.fault.ReportFault.{ReportFault}
use Rattle.fit_report.specs.declared.fault.ReportFault.TheVariants as reports
use Rattle.fit_report.specs.Heard.{Lines}
use Rattle.fit_report.specs.Reports.{Channel, HasTold}
use Rattle.fit_csv.specs.declared.fault.CsvFault.{CsvFault}
use Rattle.fit_csv.specs.declared.fault.CsvFault.TheVariants as csv
use Rattle.fit_csv.specs.Conversions.{Converts, RowsOf}
use Rattle.fit_csv.specs.FromText.{ReadsText}
use Rattle.fit_from_messages.specs.declared.fault.BlockReason.{BlockReason}
use Rattle.fit_from_messages.specs.declared.fault.BlockReason.TheVariants as block
use Rattle.fit_from_messages.specs.declared.fault.BlocksFault.{BlocksFault}
use Rattle.fit_from_messages.specs.declared.fault.BlocksFault.TheVariants as blocks
use Rattle.fit_from_messages.specs.FromBlocks.{FromBlocks, FromBlocksFault}
use Rattle.fit_c.specs.declared.answer.FitAnswer.{FitAnswer}

-- the number of a reason, as `gazhdor.h` has it
abbrev pub reason_code : Reason → ℕ
reason_code HeaderSize = 1
reason_code Protocol = 2
reason_code NoFit = 3
reason_code Signature = 4
reason_code HeaderSum = 5
reason_code ReservedBit = 6
reason_code UndefinedLocal = 7
reason_code Overrun = 8
reason_code Architecture = 9
reason_code FileSum = 10
reason_code TooManyFiles = 11

-- nothing but a status
abbrev pub status_alone : ℕ → FitAnswer
status_alone status = record { status = status; reason = 0; place = 0; row = 0; column = 0; files = 0 }

-- what is said of a fault of the bytes
abbrev pub fault_answer : Fault → FitAnswer
fault_answer (faults.Refused place reason) = record (status_alone 1) { reason = reason_code reason; place = place }
fault_answer (faults.Truncated place) = record (status_alone 2) { place = place }
fault_answer (faults.NoMemory used) = status_alone 3
fault_answer (faults.Read place) = status_alone 3

-- what is said of bytes that were checked
abbrev pub check_answer : Result ℕ Fault → FitAnswer
check_answer (Ok count) = record (status_alone 0) { files = count }
check_answer (Err fault) = fault_answer fault

-- what is said of what a conversion answered
abbrev pub conversion_answer : {X : Type 0} → Result X CsvFault → FitAnswer
conversion_answer (Ok _) = status_alone 0
conversion_answer (Err (csv.Decode fault)) = fault_answer fault
conversion_answer (Err csv.Header) = record (status_alone 4) { row = 1 }
conversion_answer (Err (csv.BadRow row)) = record (status_alone 4) { row = row }
conversion_answer (Err (csv.BadCell row column)) = record (status_alone 4) { row = row; column = column }
conversion_answer (Err (csv.Encode fault)) = status_alone 5
conversion_answer (Err csv.NoMemory) = status_alone 3
conversion_answer (Err csv.Read) = status_alone 3
conversion_answer (Err (csv.Write written)) = status_alone 3

-- what is said of what a report answered
abbrev pub report_answer : {X : Type 0} → Result X ReportFault → FitAnswer
report_answer (Ok _) = status_alone 0
report_answer (Err (reports.Decode fault)) = fault_answer fault
report_answer (Err reports.NoMemory) = status_alone 3
report_answer (Err (reports.Write written)) = status_alone 3

-- the number of a reason of a block, as `gazhdor.h` has it
abbrev pub block_reason_code : BlockReason → ℕ
block_reason_code block.Cut = 1
block_reason_code block.Kind = 2
block_reason_code block.Header = 3
block_reason_code block.Local = 4
block_reason_code block.Architecture = 5
block_reason_code block.Entries = 6
block_reason_code block.Size = 7
block_reason_code block.Offset = 8
block_reason_code block.Undefined = 9
block_reason_code block.Items = 10

-- what is said of what was answered to blocks
abbrev pub blocks_answer : {X : Type 0} → Result X BlocksFault → FitAnswer
blocks_answer (Ok _) = status_alone 0
blocks_answer (Err (blocks.Block number place reason)) = record (status_alone 8) { reason = block_reason_code reason; place = place; row = number }
blocks_answer (Err (blocks.Encode fault)) = status_alone 5
blocks_answer (Err blocks.NoMemory) = status_alone 3
blocks_answer (Err (blocks.Write written)) = status_alone 3

-- The bytes are that many files, one after another; or this is why they aren't known to be a chain of files, and memory was refused
-- only at a byte that may take some.
abbrev pub IsFinding : List ℕ → FitAnswer → Type 0
IsFinding bytes a = (r : Result ℕ Fault) × (a ≡ check_answer r) × IfOk r (AreFiles bytes) × IfErr r (IsFaultOf bytes) × IfErr r (LacksMemoryAt bytes)

-- This is the text, unless memory was refused.
abbrev pub IsTextUnlessNoMemory : List ℕ → FitAnswer → List ℕ → Type 0
IsTextUnlessNoMemory wanted a text = (a.status ≡ 3) ⊎ ((a.status ≡ 0) × (text ≡ wanted))

-- a source of these bytes, of which those are left, and a sink that began with nothing and has this text
abbrev pub given : List ℕ → List ℕ → Channel
given bytes left = record { before = Some bytes; after = Some left; failed = false }

abbrev pub kept : List ℕ → Bool → Channel
kept text failed = record { before = Some []; after = Some text; failed = failed }

-- The text is what a conversion of the bytes to these rows has written, and the answer is that conversion's: after a fault, the
-- rows of all events before it.
abbrev pub IsConverted : RowsOf → List ℕ → FitAnswer → List ℕ → Type 0
IsConverted rows bytes a text =
    (r : Result (Unit {0}) CsvFault) × (left : List ℕ) × (failed : Bool) × (a ≡ conversion_answer r) × Converts rows (given bytes left) (kept text failed) r

-- The text is what a report of the bytes has told by these lines, and the answer is that report's.
abbrev pub IsReported : Lines Global → List ℕ → FitAnswer → List ℕ → Type 0
IsReported line bytes a text =
    (r : Result (Unit {0}) ReportFault) × (left : List ℕ) × (failed : Bool) × (a ≡ report_answer r) × (taken : List ℕ) × (heard : List (Event Global))
    × Consumes (Some bytes) (Some left) taken × HasTold line taken (given bytes left) (kept text failed) heard r

-- The answer is that of reading the text to its end: its rows are those of a chain; or the first row that can't stand where it is and
-- its first such cell; or why the files of its rows have no bytes.
abbrev pub IsTextRead : List ℕ → FitAnswer → Type 0
IsTextRead text a =
    (r : Result (Unit {0}) CsvFault) × (left : List ℕ) × (held : Option (List ℕ)) × (failed : Bool) × (a ≡ conversion_answer r)
    × ReadsText (given text left) (record { before = Some []; after = held; failed = failed }) r

-- The answer is that of reading the blocks: they are those of a chain, which was put in a sink; or this is the first that can't stand
-- where it is, or why the files that they say have no bytes.
abbrev pub AreBlocksRead : List ℕ → FitAnswer → Type 0
AreBlocksRead bytes a =
    (r : Result (Unit {0}) BlocksFault) × (sink : Channel) × (sink.before ≡ Some []) × (a ≡ blocks_answer r) × OnOk r (FromBlocks bytes sink)
    × IfErr r (FromBlocksFault bytes sink)
