-- The names of std, of the crates below and of this crate's specs that several proofs use: each proof takes them from here.
pub use Rattle.std.proofs.Common.{◌≡◌, ℕ, ◌+◌, ◌<◌, List, [], ◌∷◌, ◌++◌, length, take, drop, get_or, reverse, Option, Some, None, Result, Ok, Err}
pub use Rattle.std.proofs.Common.{refl, sym, ap, ◌∙◌, subst, arith, rules, append_assoc, length-append, IsOk, IsErr, ◌↔◌, ◌≢◌}
pub use Rattle.std.proofs.Math.Seq.{take-append-add, take-append_seam}
pub use Rattle.std.proofs.lemmas.List.{append-nil, get_or-append-add, take-append-drop}
pub use Rattle.std.specs.declared.alloc.Global.{Global}
pub use Rattle.std.specs.Io.KnownBytes.{Appends}
pub use Rattle.fit_record.specs.declared.file.FitFile.{FitFile}
pub use Rattle.fit_record.specs.Files.{chain_limit, IsViable}
pub use Rattle.fit_chain.specs.declared.event.Fault.{Fault}
pub use Rattle.fit_chain.specs.Checks.{AreChain, AreFiles}
pub use Rattle.fit_chain.specs.Events.{Event, AreEvents}
pub use Rattle.fit_chain.specs.Memory.{IsAny, MayLackMemory}
pub use Rattle.fit_chain.specs.Progress.{Progress, HasCome, at_header}
pub use Rattle.fit_chain.specs.Refusals.{IsRefused}
pub use Rattle.fit_decode.specs.Answers.{Seen}
pub use Rattle.fit_report.specs.declared.fault.ReportFault.{ReportFault}
pub use Rattle.fit_report.specs.Heard.{Lines, text_of, hear_records}
pub use Rattle.fit_report.specs.Reports.{Channel}
pub use Rattle.fit_report.specs.Telling.{Stands, Stops, TellsMore, ToldSoFar}
pub use Rattle.fit_stream.specs.Answers.{HasLines, IsFound, IsGoodSoFar, StopsIn, no_line}
pub use Rattle.fit_stream.specs.Flows.{EndsFlow, FeedsFlow, Flow}
pub use Rattle.fit_stream.specs.inner.Lanes.{LaneNow}
