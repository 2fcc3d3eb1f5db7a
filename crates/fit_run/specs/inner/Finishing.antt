-- What the program does after a report. No public contract names these.
use Rattle.std.specs.Prelude.{◌≡◌, ℕ, List, Result, Ok, Err}
use Rattle.fit_chain.specs.declared.event.Fault.{Fault}
use Rattle.fit_chain.specs.declared.event.Fault.TheVariants.{Refused, Truncated, NoMemory, Read}
use Rattle.fit_report.specs.declared.fault.ReportFault.{ReportFault}
use Rattle.fit_report.specs.declared.fault.ReportFault.TheVariants as report
use Rattle.fit_report.specs.Reports.{Channel}
use Rattle.fit_run.specs.Lines.{ok_line, refused_line, truncated_line, read_fault_line, write_fault_line, out_of_memory_line}
use Rattle.fit_run.specs.Run.{PutsOrFails, WritesLines}

-- A line goes to the fault sink, and the output is left alone.
abbrev pub Complains : {K : Type 0} → List ℕ → ℕ → K → K → Channel → ℕ → Type 0
Complains line wanted old new faults status = (new ≡ old) × PutsOrFails faults line × (status ≡ wanted)

-- after a fault
abbrev pub FaultSaid : {K : Type 0} → Fault → K → K → Channel → Channel → ℕ → Type 0
FaultSaid (Refused place reason) old new output faults status = WritesLines (refused_line place reason) 1 output faults status
FaultSaid (Truncated place) old new output faults status = WritesLines (truncated_line place) 1 output faults status
FaultSaid (Read place) old new output faults status = Complains (read_fault_line place) 4 old new faults status
FaultSaid (NoMemory used) old new output faults status = Complains out_of_memory_line 3 old new faults status

-- after a report with this answer, which left the sink so
abbrev pub Finishes : {K : Type 0} → Result (Unit {0}) ReportFault → K → K → Channel → Channel → ℕ → Type 0
Finishes (Ok _) old new output faults status = WritesLines ok_line 0 output faults status
Finishes (Err (report.Decode fault)) old new output faults status = FaultSaid fault old new output faults status
Finishes (Err report.NoMemory) old new output faults status = Complains out_of_memory_line 3 old new faults status
Finishes (Err (report.Write written)) old new output faults status = Complains write_fault_line 4 old new faults status
