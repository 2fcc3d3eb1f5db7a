-- The names of std, of the crates below and of this crate's specs that several proofs use: each proof takes them from here.
pub use Rattle.std.proofs.Common.{ℕ, ◌*◌, ◌<◌, ◌≤◌, List, [], ◌∷◌, ◌++◌, length, ap, arith, length-append, ◌≡◌, inl, inr, zero, suc, ◌+◌, ◌-◌, refl}
pub use Rattle.std.proofs.Common.{sym, ◌∙◌, subst, append_assoc, lit<, cond, take, drop, slice_index, length-drop, Some, get_or, Result, Ok, Err}
pub use Rattle.std.proofs.Common.{Option, None, ◌⊎◌, Bool, true, false, ◌^◌, nat_le}
pub use Rattle.std.proofs.Math.Seq.{drop-cons, take-append-add, take-append_seam}
pub use Rattle.std.proofs.lemmas.Bool.{cases_lt, ne_eqb, eq-eqb, leb-true}
pub use Rattle.std.proofs.lemmas.List.{append-nil, length-take-le, take_more, get_or-append-add, take-append-drop, length-take, append_cancel_left}
pub use Rattle.std.specs.List.{AllByRecursion}
pub use Rattle.std.specs.Prelude.{IfErr, flat_map, map, ◌==◌, if◌then◌else◌}
pub use Rattle.fit_base.proofs.ByteLists.{IsBytes-append, IsBytes-none, IsBytes-back, IsBytes-take, IsBytes-front}
pub use Rattle.fit_base.proofs.Bytes.{length-little_bytes, little-little_bytes, bytes_below}
pub use Rattle.fit_base.specs.Numbers.{little_bytes, IsBytes, little}
pub use Rattle.fit_frame.proofs.OneHeader.{length-header_bytes, one_header}
pub use Rattle.fit_frame.specs.Beginning.{IsDataSize, BeginsHeader, header_reason, IsFileHeader, IsWholeHeader, RefusesByte}
pub use Rattle.fit_frame.specs.Header.{header_bytes, HeaderFits, SizeFits}
pub use Rattle.fit_frame.specs.declared.header.Header.{Header}
pub use Rattle.fit_frame.specs.declared.reason.Reason.{Reason}
pub use Rattle.fit_frame.specs.declared.reason.Reason.TheVariants.{FileSum, TooManyFiles}
pub use Rattle.fit_record.proofs.KnownFiles.{header_of, field, both_architectures, short_header, short_header_bytes}
pub use Rattle.fit_record.proofs.OneFile.{same_file, one_file}
pub use Rattle.fit_record.proofs.OneRecord.{same_record, no_bytes}
pub use Rattle.fit_record.proofs.RecordLists.{all_fit-append, records_bytes-append}
pub use Rattle.fit_record.specs.Environment.{empty_environment, learn_all, Environment, learn}
pub use Rattle.fit_record.specs.Files.{body, summed, file_bytes, chain_bytes, chain_limit, IsWellFormed, IsViable, CanFill, IsChain, IsFile}
pub use Rattle.fit_record.specs.Records.{AllFit, records_bytes, IsRecord, record_bytes, Fits}
pub use Rattle.fit_record.specs.declared.file.FitFile.{FitFile}
pub use Rattle.fit_record.specs.declared.message.Record.{Record}
pub use Rattle.fit_record.specs.declared.message.Record.TheVariants.{Define, Values}
pub use Rattle.fit_step.proofs.RecordFronts.{no_record_before, before_record, empty_back, no_record_yet}
pub use Rattle.fit_step.proofs.Splits.{split}
pub use Rattle.fit_step.specs.Held.{part_size, counts_so_far, entries_so_far, items_so_far}
pub use Rattle.fit_step.specs.InProgress.{FillFrom, NoRecord}
pub use Rattle.fit_step.specs.Reasons.{record_reason}
pub use Rattle.fit_sum.specs.Checksum.{checksum}
pub use Rattle.fit_chain.specs.Comes.{ComesToRecords, ComesTo, Ended, progress_header, progress_records, NoSooner}
pub use Rattle.fit_chain.specs.Events.{file_end, Event, header, file_events, progress_events, AreEvents, bound}
pub use Rattle.fit_chain.specs.GoingOn.{DataGoesOn, GoesOn, ChainGoesOn, files_begun}
pub use Rattle.fit_chain.specs.Held.{bound_limit, held_after}
pub use Rattle.fit_chain.specs.Laws.{RefusedHaveReasons, BoundsAreLimited}
pub use Rattle.fit_chain.specs.Memory.{MayTakeMemory}
pub use Rattle.fit_chain.specs.Needs.{missing, Needs, NoFileEndsBefore}
pub use Rattle.fit_chain.specs.Pieces.{Quiet, Least}
pub use Rattle.fit_chain.specs.Progress.{Progress, at_header, at_data, progress_bytes, IsUnfinished, HasCome, IsPartial}
pub use Rattle.fit_chain.specs.Refusals.{IsRefused, reason_at, reason_in_file}
