-- The names of std, of the crates below and of this crate's specs that several proofs use: each proof takes them from here.
pub use Rattle.std.proofs.Common.{◌≡◌, ℕ, ◌-◌, ◌<◌, List, [], length, sym, ap, ◌∙◌, subst, arith, None, true, false, ◌+◌, suc, ◌∷◌, ◌++◌, take, drop}
pub use Rattle.std.proofs.Common.{get_or, Some, Ok, Err, append_assoc, length-append, ◌^◌, min, refl, ◌≤◌, slice_index, inl, inr, cond}
pub use Rattle.std.proofs.Common.{◌⊎◌, ◌/◌, ◌%◌, zero, rules}
pub use Rattle.std.proofs.Math.Seq.{take-append_seam, take-length, take-append-add, take-add}
pub use Rattle.std.proofs.lemmas.Bool.{cond-true, cond-false, eq-eqb, ne_eqb, eqb-true}
pub use Rattle.std.proofs.lemmas.List.{append-nil, length-take-le, take-append-drop, append_cancel_left, length-take, get_or-append-add, length-drop}
pub use Rattle.std.proofs.lemmas.List.{get_or-drop, take_more}
pub use Rattle.std.specs.Io.KnownBytes.{Consumes, IsAtEnd, Keeps}
pub use Rattle.std.specs.Prelude.{Vec, if◌then◌else◌, IsErr, IsOk, ◌↔◌, ◌==◌, map}
pub use Rattle.std.specs.Result.{is_ok, is_err}
pub use Rattle.std.specs.declared.alloc.Global.{Global}
pub use Rattle.fit_base.proofs.ByteLists.{IsBytes-append, IsBytes-take, IsBytes-none, IsBytes-drop, slice_is_bytes}
pub use Rattle.fit_base.specs.Numbers.{IsBytes, little_bytes, number}
pub use Rattle.fit_chain.proofs.Bounds.{short_bytes}
pub use Rattle.fit_chain.proofs.Completions.{goes_viable, fill_data}
pub use Rattle.fit_chain.proofs.DataFed.{InRecords, data_starts, data_quiet, data_come, data_viable, left_after, item_come, item_least, data_refuses}
pub use Rattle.fit_chain.proofs.DataFed.{data_wants, data_takes}
pub use Rattle.fit_chain.proofs.Faults.{chain_come, refused_in, wants_in, chain_end}
pub use Rattle.fit_chain.proofs.Lacking.{lacks_for_byte, lacks_for_event, lacks_for_more, lacks_in_rest, lacks_at_end, needs_at_end}
pub use Rattle.fit_chain.proofs.Learned.{known_in_data}
pub use Rattle.fit_chain.proofs.Missing.{ended_chain, needs_some, needs_no_sooner}
pub use Rattle.fit_chain.proofs.Next.{whole_header, more_of, items_told, all_told}
pub use Rattle.fit_chain.proofs.NextFile.{at_place, base_is, file_ends, next_bytes, none_whole, refused_byte, shorter, are_of_bytes}
pub use Rattle.fit_chain.proofs.OnePlace.{one_place, no_file}
pub use Rattle.fit_chain.proofs.Telling.{least_for, quiet_for, quiet_of}
pub use Rattle.fit_chain.proofs.ViableGoesOn.{begins_nothing, viable_goes}
pub use Rattle.fit_chain.proofs.Whole.{no_header_in, unfinished, begun_header, partial_nothing}
pub use Rattle.fit_chain.specs.Checks.{AreChain, AreFiles, IsFaultOf, LacksMemoryAt, fault_after}
pub use Rattle.fit_chain.specs.Comes.{ComesTo, Ended, ComesToRecords, NoSooner}
pub use Rattle.fit_chain.specs.Events.{Event, header, item, file_end, AreEvents}
pub use Rattle.fit_chain.specs.GoingOn.{files_begun, ChainGoesOn}
pub use Rattle.fit_chain.specs.Memory.{IsAny, IsItem, IsItemOrEnd, MayLackMemory, MayLackMemoryIn}
pub use Rattle.fit_chain.specs.Needs.{Needs}
pub use Rattle.fit_chain.specs.Pieces.{Quiet, Least}
pub use Rattle.fit_chain.specs.Progress.{at_header, Progress, HasCome, at_data, progress_bytes}
pub use Rattle.fit_chain.specs.Refusals.{IsRefused, reason_at}
pub use Rattle.fit_chain.specs.declared.event.Event.{Event as Answer}
pub use Rattle.fit_chain.specs.declared.event.Fault.{Fault}
pub use Rattle.fit_chain.specs.declared.event.Fault.TheVariants.{Truncated, Read}
pub use Rattle.fit_frame.specs.Beginning.{IsFileHeader, RefusesByte}
pub use Rattle.fit_frame.specs.Header.{header_bytes}
pub use Rattle.fit_frame.specs.declared.header.Header.{Header as FileHeader}
pub use Rattle.fit_frame.specs.declared.reason.Reason.{Reason}
pub use Rattle.fit_record.proofs.RecordLists.{records_bytes-append, learn_all-append, all_fit-append}
pub use Rattle.fit_record.specs.Environment.{Environment, empty_environment, learn_all, learn}
pub use Rattle.fit_record.specs.Files.{chain_limit, summed, IsFile, IsChain, IsViable, chain_bytes, file_bytes, CanFill}
pub use Rattle.fit_record.specs.Records.{records_bytes, IsRecord, record_bytes, AllFit}
pub use Rattle.fit_record.specs.declared.file.FitFile.{FitFile}
pub use Rattle.fit_record.specs.declared.message.Record.{Record}
pub use Rattle.fit_step.proofs.RecordsInProgress.{idle_between_records, records_in_progress, begins_record, fill_nothing, record_fills}
pub use Rattle.fit_step.specs.InProgress.{AwaitsByte, in_progress_size, IsCountable, IsInProgress, FillFrom, Reads}
pub use Rattle.fit_step.specs.declared.position.Position.{Position}
pub use Rattle.fit_step.specs.declared.stop.Stop.{Stop}
pub use Rattle.fit_sum.specs.Checksum.{checksum}
pub use denote.Param.{layout}
pub use Rattle.fit_decode.specs.Answers.{Refuses, Wants, fed, event_of, Seen as Fed}
pub use Rattle.fit_decode.specs.Reads.{EndsReading, ReadsChain, GivesChain, GivesFile, piece_size, EndsChain, GivesNext, Past}
pub use Rattle.fit_decode.specs.Reads.{Channel, BeginsWithFile, ReadsOne, IsInNeededPiece, WantsMemory}
pub use Rattle.fit_decode.specs.declared.decoder.Decoder.TheInside.{Inside}
pub use Rattle.fit_decode.specs.declared.section.Section.{Section}
pub use Rattle.fit_decode.specs.declared.section.Stage.{Stage}
pub use Rattle.fit_decode.specs.declared.section.Section.TheVariants.{Data, ClosingSum, Latched, Data as InSection}
pub use Rattle.fit_decode.specs.inner.Between.{IsAfter, IsEnd}
pub use Rattle.fit_decode.specs.inner.Invariant.{IsSoundDecoder, fields_inside, seen_in}
pub use Rattle.fit_decode.specs.inner.Kept.{Fields, InHeader, InData, InSum, HoldsAt, Holds, Advanced, NotRefused, NextAnswer}
pub use Rattle.fit_decode.specs.inner.Kept.{to_come, to_come_in, refusal_of}
pub use Rattle.fit_decode.specs.inner.Scans.{IsHeaderPart, half_sum, HeaderScanned}
pub use Rattle.fit_decode.specs.inner.Sections.{HeaderFed, DataFed, SumFed, section_of}
pub use Rattle.fit_decode.specs.inner.Turns.{FileRead, FileTold, LastPiece, Turned, FaultIn, Eaten, unrefused, PieceFed, TurnTold}
