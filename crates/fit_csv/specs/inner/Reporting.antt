-- The text of a conversion by that of its report. No public contract names these definitions.
use Rattle.std.specs.Prelude.{◌≡◌, ℕ, ◌+◌, ◌-◌, ◌^◌, min, List, ◌++◌, reverse}
use Rattle.std.specs.Global.{Global}
use Rattle.fit_chain.specs.Events.{Event}
use Rattle.fit_report.specs.declared.fault.ReportFault.{ReportFault}
use Rattle.fit_report.specs.declared.fault.ReportFault.TheVariants as report
use Rattle.fit_report.specs.Heard.{Lines, text_of}
use Rattle.fit_cells.specs.Rows.{csv_text}
use Rattle.fit_csv.specs.declared.fault.CsvFault.{CsvFault}
use Rattle.fit_csv.specs.declared.fault.CsvFault.TheVariants as csv
use Rattle.fit_csv.specs.Conversions.{RowsOf}

-- the text of the rows of events is this first line and the lines of the events, of which a reporter tells the latest first
abbrev pub HasText : List ℕ → Lines Global → RowsOf → Type 0
HasText first line rows = (heard : List (Event Global)) → csv_text (rows (reverse heard)) ≡ first ++ text_of line heard

-- the fault of a conversion by that of a report after that many bytes
abbrev pub csv_fault : ReportFault → ℕ → CsvFault
csv_fault (report.Decode fault) before = csv.Decode fault
csv_fault report.NoMemory before = csv.NoMemory
csv_fault (report.Write written) before = csv.Write (min (written + before) (2 ^ 64 - 1))
