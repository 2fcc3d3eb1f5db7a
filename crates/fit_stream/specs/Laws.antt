-- What holds of streams and their texts.
use Rattle.std.specs.Prelude.{◌≡◌, ℕ, false, List, ◌++◌, Some, Result, Ok, Err, reverse}
use Rattle.std.specs.Io.KnownBytes.{Appends, Consumes}
use Rattle.std.specs.declared.alloc.Global.{Global}
use Rattle.fit_base.specs.Numbers.{IsBytes}
use Rattle.fit_chain.specs.Events.{Event}
use Rattle.fit_report.specs.declared.fault.ReportFault.{ReportFault}
use Rattle.fit_report.specs.declared.fault.ReportFault.TheVariants as reports
use Rattle.fit_report.specs.Heard.{Lines, text_of}
use Rattle.fit_report.specs.Reports.{Channel, HasTold}
use Rattle.fit_cells.specs.Rows.{csv_text}
use Rattle.fit_table.specs.Table.{table_of}
use Rattle.fit_rows.specs.ChainRows.{rows_of}
use Rattle.fit_stream.specs.declared.kind.Kind.TheVariants as kinds
use Rattle.fit_stream.specs.Answers.{IsFound}
use Rattle.fit_stream.specs.Streams.{first_for, line_for}

-- The first line and the lines of events are the table of these events as CSV text; and so are all rows.
abbrev pub StreamsOfRows : Type 0
StreamsOfRows =
    ((heard : List (Event Global)) → csv_text (table_of (reverse heard)) ≡ first_for kinds.Table ++ text_of (line_for kinds.Table) heard)
    × ((heard : List (Event Global)) → csv_text (rows_of (reverse heard)) ≡ first_for kinds.Rows ++ text_of (line_for kinds.Rows) heard)

-- Memory wasn't refused.
abbrev pub HadMemory : Result ℕ ReportFault → Type 0
HadMemory (Ok files) = Unit {0}
HadMemory (Err (reports.Decode fault)) = Unit {0}
HadMemory (Err reports.NoMemory) = ⊥
HadMemory (Err (reports.Write written)) = ⊥

-- Of the same bytes, however they were split, the same is found, with the same text, unless memory is refused.
abbrev pub StreamsFindOne : Type 0
StreamsFindOne = (line : Lines Global) (first bytes text other : List ℕ) (answer again : Result ℕ ReportFault) → IsBytes bytes
    → IsFound line first bytes text answer → IsFound line first bytes other again → HadMemory answer → HadMemory again
    → (answer ≡ again) × (text ≡ other)

-- ---- what `report` does

-- A report of a source with these bytes, which has not failed, answers this, and has told some events of what it took.
abbrev pub HasReported : Lines Global → List ℕ → Channel → Channel → Result (Unit {0}) ReportFault → Type 0
HasReported line bytes source sink result = (taken : List ℕ) × (heard : List (Event Global)) × Consumes (Some bytes) source.after taken
    × HasTold line taken source sink heard result × (source.failed ≡ false)

-- Memory wasn't refused, nor has the sink failed.
abbrev pub HadRoom : Result (Unit {0}) ReportFault → Type 0
HadRoom (Ok done) = Unit {0}
HadRoom (Err (reports.Decode fault)) = Unit {0}
HadRoom (Err reports.NoMemory) = ⊥
HadRoom (Err (reports.Write written)) = ⊥

-- what a report answers where a stream finds this
abbrev pub reported : Result ℕ ReportFault → Result (Unit {0}) ReportFault
reported (Ok files) = Ok tt
reported (Err fault) = Err fault

-- A report puts the text that a stream of the same bytes hands out after its first line, and answers the same fault, unless a part fails.
abbrev pub ReportsAreFound : Type 0
ReportsAreFound = (line : Lines Global) (first bytes text : List ℕ) (source sink : Channel) (result : Result (Unit {0}) ReportFault)
    (answer : Result ℕ ReportFault) → IsBytes bytes → HasReported line bytes source sink result → HadRoom result
    → IsFound line first bytes text answer → HadMemory answer
    → (result ≡ reported answer) × (put : List ℕ) × (text ≡ first ++ put) × Appends sink.before sink.after put
