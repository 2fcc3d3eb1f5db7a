-- The names of std, of the crates below and of this crate's specs that several proofs use: each proof takes them from here.
pub use Rattle.std.proofs.Common.{◌≡◌, false, ℕ, ◌+◌, ◌<◌, List, [], ◌∷◌, ◌++◌, length, take, get_or, Option, Some, None, Ok, Err, refl, sym}
pub use Rattle.std.proofs.Common.{ap, ◌∙◌, subst, append_assoc, reverse, ap₂, arith, ◌*◌, ◌≤◌, true, rules, ◌^◌, IfErr}
pub use Rattle.std.proofs.lemmas.Bool.{eqb-true}
pub use Rattle.std.proofs.lemmas.List.{map-append, take_more, append-nil, reverse-append, reverse-reverse, length-take-le, get_or_append_left}
pub use Rattle.std.proofs.lemmas.List.{take-append-le}
pub use Rattle.std.proofs.lemmas.Result.{err_from_is_err_and}
pub use Rattle.std.specs.Prelude.{map, flat_map}
pub use Rattle.std.specs.declared.alloc.Global.{Global}
pub use Rattle.fit_base.proofs.ByteLists.{slice_is_bytes, IsBytes-front}
pub use Rattle.fit_chain.proofs.Faults.{chain_end, fault_of_chain}
pub use Rattle.fit_chain.specs.Checks.{LacksMemory, IsFaultOf, AreChain, LacksMemoryAt}
pub use Rattle.fit_chain.specs.Events.{AreEvents, Event, file_end, file_events, header, item}
pub use Rattle.fit_decode.proofs.Checking.{Feeds, bad_end, feeds_on, good_end, stopped, stops, taken_before, stopped_at}
pub use Rattle.fit_decode.specs.Answers.{Seen, event_of, fed}
pub use Rattle.fit_decode.specs.Reads.{GivesFile}
pub use Rattle.fit_encode.specs.Encoding.{Encoding, IsWhole, bytes_so_far, closing_bytes, data_so_far, learned, IsFinishFault, IsPlaceFault}
pub use Rattle.fit_encode.specs.Encoding.{IsPutFault, closed_fault}
pub use Rattle.fit_frame.specs.Header.{HeaderFits, IsHeader, header_bytes}
pub use Rattle.fit_record.specs.Environment.{empty_environment, Environment, learn, learn_all}
pub use Rattle.fit_record.specs.Files.{IsFile, IsChain, chain_limit}
pub use Rattle.fit_record.specs.Records.{record_bytes, Fits, records_bytes}
pub use Rattle.fit_record.specs.declared.file.FitFile.{FitFile}
pub use Rattle.fit_record.specs.declared.message.Record.{Record}
pub use Rattle.fit_record.specs.declared.message.Record.TheVariants.{Define}
pub use Rattle.fit_report.specs.Heard.{AreHeard, hear, latest_records}
pub use Rattle.fit_examples.specs.Recordings.{IsRecording, definition, ride_message, ride_records, FitsRide, IsRideFault}
