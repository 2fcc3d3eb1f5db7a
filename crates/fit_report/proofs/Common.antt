-- The names of std, of the crates below and of this crate's specs that several proofs use: each proof takes them from here.
pub use Rattle.std.proofs.Common.{◌≡◌, ℕ, suc, ◌<◌, List, [], ◌∷◌, ◌++◌, length, take, drop, get_or, reverse, Option, Some, None, Result, Ok, Err}
pub use Rattle.std.proofs.Common.{refl, sym, ap, ◌∙◌, subst, append_assoc, arith, ◌+◌, ◌≤◌, false, IsOk, IsErr, ◌↔◌, length-append, map, ◌⊎◌}
pub use Rattle.std.proofs.Common.{inl, inr, ◌-◌}
pub use Rattle.std.proofs.Math.Seq.{drop-cons, take-append-add, take-add}
pub use Rattle.std.proofs.lemmas.List.{append-nil, take-append-drop, reverse-reverse, reverse-append, get_or-append-add, length-drop, length-take}
pub use Rattle.std.proofs.lemmas.List.{get_or-drop, length-reverse, map-append}
pub use Rattle.std.proofs.lemmas.Result.{err_from_is_err_and}
pub use Rattle.std.specs.Global.{Global}
pub use Rattle.std.specs.Io.KnownBytes.{Appends, Consumes, IsAtEnd}
pub use Rattle.std.specs.Prelude.{OnOk, flat_map}
pub use Rattle.fit_chain.proofs.Bounds.{short_bytes}
pub use Rattle.fit_chain.proofs.Telling.{least_for, quiet_for}
pub use Rattle.fit_chain.specs.Events.{Event, AreEvents, file_events, header, item, file_end, progress_events}
pub use Rattle.fit_chain.specs.Progress.{at_header, Progress, at_data, progress_bytes, IsUnfinished}
pub use Rattle.fit_chain.specs.Refusals.{IsRefused}
pub use Rattle.fit_chain.specs.declared.event.Event.{Event as Answer}
pub use Rattle.fit_chain.specs.declared.event.Fault.{Fault}
pub use Rattle.fit_chain.specs.declared.event.Fault.TheVariants.{Refused, Truncated, Read, NoMemory as NoRoom}
pub use Rattle.fit_decode.proofs.Consumed.{Consumes-append, Consumes-nothing}
pub use Rattle.fit_decode.proofs.FileRead.{no_file_yet, nothing_viable}
pub use Rattle.fit_decode.proofs.PieceTold.{fed_on}
pub use Rattle.fit_decode.specs.Answers.{event_of, Seen, fed, Refuses}
pub use Rattle.fit_record.specs.Files.{chain_bytes, chain_limit, IsChain, IsViable, body, summed, file_bytes}
pub use Rattle.fit_record.specs.declared.file.FitFile.{FitFile}
pub use Rattle.fit_record.specs.declared.message.Record.{Record}
pub use Rattle.fit_report.specs.Heard.{Lines, text_of, hear, latest_records, Skips, hear_records, line_of, AreHeard}
pub use Rattle.fit_report.specs.Reports.{Channel, Reports, ReportsChain, HasTold, Tells, report_fault, HasHeard, TextFailsIn, channel}
pub use Rattle.fit_report.specs.declared.fault.ReportFault.{ReportFault}
pub use Rattle.fit_report.specs.declared.fault.ReportFault.TheVariants.{Decode, NoMemory, Write}
pub use Rattle.fit_report.specs.Telling.{Stands, Stops, TellsMore, ToldSoFar}
pub use Rattle.fit_report.specs.inner.Passing.{Puts}
