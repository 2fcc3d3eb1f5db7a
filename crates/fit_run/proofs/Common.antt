-- The names of std, of the crates below and of this crate's specs that several proofs use: each proof takes them from here.
pub use Rattle.std.proofs.Common.{◌≡◌, inr, inl, false, ℕ, List, Result, Ok, Err, ◌+◌, ◌<◌, ◌≤◌, [], ◌∷◌, ◌++◌, length, map, reverse, refl, sym, ap}
pub use Rattle.std.proofs.Common.{◌∙◌, subst, arith, append_assoc, Bool, suc, take, drop, get_or, Option, Some, None, take-append-drop, drop-cons}
pub use Rattle.std.proofs.Common.{length-append, length-take-le, ◌==◌, true, cond, lit≤, ◌≢◌, ◌⊎◌, ◌^◌, OnOk, OnErr, add-zero, option_map}
pub use Rattle.std.proofs.Common.{string_bytes}
pub use Rattle.std.proofs.lemmas.List.{length-reverse, reverse-append, take-append-le, get_or_append_left, append_cancel_left, reverse-reverse}
pub use Rattle.std.specs.Global.{Global}
pub use Rattle.std.specs.Io.KnownBytes.{Consumes, Appends, IsAtEnd}
pub use Rattle.std.specs.Prelude.{decimal, flat_map, IfSome}
pub use Rattle.clap.specs.Words.{App, HasKind, IsAmong, Text, fault_of, is_simple_and_free, kind_of, takes, matches_of, first_of, first_value}
pub use Rattle.clap.specs.Words.{found_of, is_simple, app_of, HasMatchesOf, fault_of as clap_faults}
pub use Rattle.fit_base.specs.Numbers.{IsBytes}
pub use Rattle.fit_cells.specs.Rows.{Row, csv_text}
pub use Rattle.fit_chain.specs.Events.{Event, header, item, file_end, file_events, AreEvents}
pub use Rattle.fit_chain.specs.Laws.{ReasonsAreOne, EventsAreOne}
pub use Rattle.fit_chain.specs.declared.event.Fault.{Fault}
pub use Rattle.fit_chain.specs.declared.event.Fault.TheVariants.{Refused, Truncated}
pub use Rattle.fit_rows.specs.ChainRows.{rows_of, chain_rows}
pub use Rattle.fit_csv.specs.Conversions.{ConvertsTo, Converts, RowsOf}
pub use Rattle.fit_csv.specs.FromText.{FromTextOf, IsTextFinding, IsWrong, ReadsText, UnlessWritten}
pub use Rattle.fit_csv.specs.Laws.{TextsHaveOneFinding}
pub use Rattle.fit_table.specs.Table.{table_of}
pub use Rattle.fit_csv.specs.declared.fault.CsvFault.{CsvFault}
pub use Rattle.fit_csv.specs.declared.fault.CsvFault.TheVariants.{BadCell, BadRow, Decode, Encode, Write}
pub use Rattle.fit_frame.specs.declared.reason.Reason.{Reason}
pub use Rattle.fit_record.specs.Files.{body, IsChain, IsViable, chain_limit}
pub use Rattle.fit_record.specs.declared.file.FitFile.{FitFile}
pub use Rattle.fit_record.specs.declared.message.Record.{Record}
pub use Rattle.fit_report.proofs.Records.{heard_are_few, next_records, reverse-map}
pub use Rattle.fit_report.specs.Heard.{AreHeard, hear_records, latest_records, text_of, Lines, hear}
pub use Rattle.fit_report.specs.Reports.{Channel, channel, HasTold, Reports, ReportsChain}
pub use Rattle.fit_run.specs.CommandLine.{command_word, fit_app, line_fault, IsFileWord, GivesPlainLines, IsPlainLine, IsRefusedFor, Names}
pub use Rattle.fit_run.specs.Laws.{ChainsHaveLines, FindingsAreOne, HasFound, HasRun, RunsAreOne}
pub use Rattle.fit_run.specs.Lines.{Counts, ended_files, latest_size, check_line, file_line, file_lines, ok_line, refused_line, truncated_line}
pub use Rattle.fit_run.specs.Run.{Concludes, IsWritten, ReportFinds, good_bytes, Runs, Says, WritesLines, PutsOrFails, RunsCommand}
pub use Rattle.fit_run.specs.declared.command_line.Command.{Command}
pub use Rattle.fit_run.specs.declared.command_line.Command.TheVariants.{Check, Show, ToCsv, FromCsv, Table}
