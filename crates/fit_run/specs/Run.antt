-- What the program writes, and the status that it answers.
use Rattle.std.specs.Prelude.{◌≡◌, ℕ, ◌<◌, ◌⊎◌, true, false, List, ◌++◌, Result, Ok, Err, IfErr, Some, length, reverse, take}
use Rattle.std.specs.Global.{Global}
use Rattle.std.specs.Io.KnownBytes.{Appends, Consumes, IsAtEnd, Keeps}
use Rattle.fit_base.specs.Numbers.{IsBytes}
use Rattle.fit_record.specs.declared.file.FitFile.{FitFile}
use Rattle.fit_record.specs.Files.{IsChain, chain_limit}
use Rattle.fit_chain.specs.declared.event.Fault.{Fault}
use Rattle.fit_chain.specs.declared.event.Fault.TheVariants.{Refused, Truncated, NoMemory, Read}
use Rattle.fit_chain.specs.Checks.{AreChain}
use Rattle.fit_chain.specs.Events.{Event, AreEvents}
use Rattle.fit_chain.specs.Memory.{IsAny}
use Rattle.fit_decode.specs.Reads.{WantsMemory}
use Rattle.fit_report.specs.Heard.{Lines, text_of}
use Rattle.fit_report.specs.Reports.{Channel, IsInPiece, IsNearlyViable, Faults, before_fault}
use Rattle.fit_csv.specs.declared.fault.CsvFault.{CsvFault}
use Rattle.fit_csv.specs.declared.fault.CsvFault.TheVariants as csv
use Rattle.fit_rows.specs.ChainRows.{rows_of}
use Rattle.fit_csv.specs.Conversions.{Converts, RowsOf}
use Rattle.fit_csv.specs.FromText.{IsTextOf, ReadsText, UnlessWritten}
use Rattle.fit_show.specs.ShowLines.{show_line}
use Rattle.fit_table.specs.Table.{table_of}
use Rattle.fit_run.specs.declared.command_line.Command.{Command}
use Rattle.fit_run.specs.declared.command_line.Command.TheVariants.{Check, Show, ToCsv, FromCsv, Table}
use Rattle.fit_run.specs.Lines.{check_line, ok_line, refused_line, truncated_line, read_fault_line, write_fault_line, header_row_line, row_line, cell_line}
use Rattle.fit_run.specs.Lines.{text_fault_line, encode_line, out_of_memory_line}

-- ---- lines in a sink

-- All of the bytes were put, or the sink has failed after some first ones.
abbrev pub PutsOrFails : Channel → List ℕ → Type 0
PutsOrFails sink bytes = Appends sink.before sink.after bytes
    ⊎ ((sink.failed ≡ true) × (n : ℕ) × (n < length bytes) × Appends sink.before sink.after (take n bytes))

-- The output has failed after some first bytes of the lines; the fault sink is told so, and the status is 4.
abbrev pub OutputFailsIn : List ℕ → Channel → Channel → ℕ → Type 0
OutputFailsIn lines output faults status =
    (output.failed ≡ true) × (n : ℕ) × (n < length lines) × Appends output.before output.after (take n lines) × PutsOrFails faults write_fault_line
    × (status ≡ 4)

-- The lines went out, and this is the status; or the output has failed in them.
abbrev pub WritesLines : List ℕ → ℕ → Channel → Channel → ℕ → Type 0
WritesLines lines wanted output faults status =
    (Appends output.before output.after lines × Keeps faults.before faults.after × (status ≡ wanted)) ⊎ OutputFailsIn lines output faults status

-- ---- a report

-- What the bytes taken from the input are: all of it, and a chain of files; or what a fault ended. That memory was refused is
-- nothing found.
abbrev pub ReportFinds : {X : Type 0} → Type 0 → List ℕ → Channel → Result X Fault → Type 0
ReportFinds A taken source (Ok _) = IsAtEnd source.after × (source.failed ≡ false) × AreChain A taken
ReportFinds A taken source (Err (NoMemory used)) = ⊥
ReportFinds A taken source (Err fault) = Faults A chain_limit taken source fault

-- the bytes that were found good
abbrev pub good_bytes : {X : Type 0} → Result X Fault → List ℕ → List ℕ
good_bytes (Ok _) taken = taken
good_bytes (Err fault) taken = before_fault fault taken

-- What is said of it after the lines of the good bytes: a last line with status 0 for a chain, and 1 for none; or that the
-- source failed.
abbrev pub Says : {X : Type 0} → Result X Fault → List ℕ → Channel → Channel → ℕ → Type 0
Says (Ok _) lines output faults status = WritesLines (lines ++ ok_line) 0 output faults status
Says (Err (Refused place reason)) lines output faults status = WritesLines (lines ++ refused_line place reason) 1 output faults status
Says (Err (Truncated place)) lines output faults status = WritesLines (lines ++ truncated_line place) 1 output faults status
Says (Err (Read place)) lines output faults status =
    Appends output.before output.after lines × PutsOrFails faults (read_fault_line place) × (status ≡ 4)
Says (Err (NoMemory used)) lines output faults status = ⊥

-- Memory was refused after the lines of the first k bytes, at a later byte of the last piece that was taken; or the output has failed in
-- them, and all but at most a piece of what was taken begins a chain.
abbrev pub LinesBreakOff : Type 0 → ℕ → List ℕ → List ℕ → Channel → Channel → ℕ → Type 0
LinesBreakOff A k taken lines output faults status =
    (Appends output.before output.after lines × PutsOrFails faults out_of_memory_line × (status ≡ 3)
    × WantsMemory A IsAny chain_limit IsInPiece k taken)
    ⊎ (OutputFailsIn lines output faults status × IsNearlyViable A chain_limit taken)

-- What a command did that writes these lines of events: of all that it took from the input it wrote the lines, and said what it
-- found; or it broke off in the lines of some first bytes. The source has not failed then.
abbrev pub Runs : {A : Type 0} → Lines A → Channel → Channel → Channel → ℕ → Type 0
Runs {A} line source output faults status =
    (taken : List ℕ) × Consumes source.before source.after taken
    × (((found : Result (Unit {0}) Fault) × (heard : List (Event A)) × ReportFinds A taken source found × AreEvents (good_bytes found taken) (reverse heard)
    × Says found (text_of line heard) output faults status)
    ⊎ ((k : ℕ) × (heard : List (Event A)) × AreEvents (take k taken) (reverse heard)
    × LinesBreakOff A k taken (text_of line heard) output faults status × (source.failed ≡ false)))

-- ---- a conversion

-- What is said of a conversion's answer: nothing where it is good, and else a line on the fault sink.
abbrev pub Concludes : {X : Type 0} → Result X CsvFault → Channel → ℕ → Type 0
Concludes (Ok _) faults status = Keeps faults.before faults.after × (status ≡ 0)
Concludes (Err (csv.Decode (Refused place reason))) faults status = PutsOrFails faults (refused_line place reason) × (status ≡ 1)
Concludes (Err (csv.Decode (Truncated place))) faults status = PutsOrFails faults (truncated_line place) × (status ≡ 1)
Concludes (Err (csv.Decode (Read place))) faults status = PutsOrFails faults (read_fault_line place) × (status ≡ 4)
Concludes (Err (csv.Decode (NoMemory used))) faults status = PutsOrFails faults out_of_memory_line × (status ≡ 3)
Concludes (Err (csv.Encode fault)) faults status = PutsOrFails faults (encode_line fault) × (status ≡ 1)
Concludes (Err csv.Header) faults status = PutsOrFails faults header_row_line × (status ≡ 1)
Concludes (Err (csv.BadRow row)) faults status = PutsOrFails faults (row_line row) × (status ≡ 1)
Concludes (Err (csv.BadCell row column)) faults status = PutsOrFails faults (cell_line row column) × (status ≡ 1)
Concludes (Err csv.NoMemory) faults status = PutsOrFails faults out_of_memory_line × (status ≡ 3)
Concludes (Err csv.Read) faults status = PutsOrFails faults text_fault_line × (status ≡ 4)
Concludes (Err (csv.Write written)) faults status = PutsOrFails faults write_fault_line × (status ≡ 4)

-- What a command did that writes these rows of events.
abbrev pub RunsConversion : RowsOf → Channel → Channel → Channel → ℕ → Type 0
RunsConversion rows source output faults status = (answer : Result (Unit {0}) CsvFault) × Converts rows source output answer × Concludes answer faults status

-- What `from-csv` did: it read a text and wrote the chain of files that it stands for, or there is a fault, before which nothing
-- was written but by a sink that fails.
abbrev pub RunsFromCsv : Channel → Channel → Channel → ℕ → Type 0
RunsFromCsv source output faults status =
    (answer : Result (Unit {0}) CsvFault) × ReadsText source output answer
    × IfErr answer (λ fault. UnlessWritten fault (output.after ≡ output.before)) × Concludes answer faults status

-- ---- the commands

abbrev pub RunsCommand : Command → Channel → Channel → Channel → ℕ → Type 0
RunsCommand Check source output faults status = Runs {A = Global} check_line source output faults status
RunsCommand Show source output faults status = Runs {A = Global} show_line source output faults status
RunsCommand ToCsv source output faults status = RunsConversion rows_of source output faults status
RunsCommand FromCsv source output faults status = RunsFromCsv source output faults status
RunsCommand Table source output faults status = RunsConversion table_of source output faults status

-- ---- a chain

-- Memory was refused, or all of this was written.
abbrev pub IsWritten : List ℕ → Channel → ℕ → Type 0
IsWritten text output status = (status ≡ 3) ⊎ ((status ≡ 0) × Appends output.before output.after text)

-- What a command does with a chain of files, by the text that it makes of them: where the input is the chain's bytes, and neither
-- the source nor the output has failed, this text is written, unless memory is refused.
abbrev pub WritesOfChain : (List (FitFile Global) → List ℕ) → Channel → Channel → ℕ → Type 0
WritesOfChain text source output status =
    (fs : List (FitFile Global)) (b : List ℕ) → source.before ≡ Some b → IsBytes b → IsChain chain_limit fs b
    → source.failed ≡ false → output.failed ≡ false → IsWritten (text fs) output status

-- What `from-csv` does with the text of a chain: its bytes are written, unless memory is refused.
abbrev pub WritesTextOfChain : Channel → Channel → ℕ → Type 0
WritesTextOfChain source output status =
    (text : List ℕ) (fs : List (FitFile Global)) (b : List ℕ) → source.before ≡ Some text → IsTextOf text fs b
    → source.failed ≡ false → output.failed ≡ false → IsWritten b output status
