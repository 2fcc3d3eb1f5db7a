-- The names of std, of the crates below and of this crate's specs that several proofs use: each proof takes them from here.
pub use Rattle.std.proofs.Common.{◌≡◌, ℕ, ◌<◌, ◌≤◌, Bool, true, false, List, [], ◌∷◌, ◌++◌, length, take, Some, None, refl, sym, ap, ◌∙◌, subst}
pub use Rattle.std.proofs.Common.{append_assoc, append-nil, length-append, arith, ◌⊎◌, inl, inr, drop, get_or, length-take, ◌*◌, cond, set, ltb}
pub use Rattle.std.proofs.Common.{lt-ltb, get_or-set_same, get_or-set_other, add-zero, ◌/◌, eqb-true, ap₂, rules}
pub use Rattle.std.proofs.KnownBytes.{Appends-trans, Appends-nil}
pub use Rattle.std.proofs.lemmas.Bool.{cases_order, cases_eq, cases_lt, or_cases}
pub use Rattle.std.proofs.lemmas.List.{take_more, drop_more, take-append-drop, take_all, nil_from_length}
pub use Rattle.std.proofs.lemmas.Result.{err_from_is_err_and}
pub use Rattle.std.specs.Io.KnownBytes.{Appends}
pub use Rattle.std.specs.List.{AllByRecursion}
pub use Rattle.std.specs.Prelude.{OnErr, is_err, unwrap_or, option_map, OnOk, IfErr, flat_map, slice_index_or, option_and_then, IsErrAnd}
pub use Rattle.std.specs.Prelude.{IsSomeAnd, ◌==◌, ◌||◌, ◌%◌}
pub use Rattle.fit_base.proofs.Bytes.{length-little_bytes, length-number_bytes, front_back, found_passes}
pub use Rattle.fit_base.specs.Fields.{items_bytes}
pub use Rattle.fit_base.specs.Numbers.{little_bytes, number_bytes}
pub use Rattle.fit_base.specs.declared.items.Items.{Items}
pub use Rattle.fit_base.specs.declared.number.Order.{Order}
pub use Rattle.fit_base.specs.declared.number.Order.TheVariants.{Little}
pub use Rattle.fit_frame.specs.Header.{HeaderFits, header_bytes, FormFits, ZeroIsSum as SumIsZero, SizeFits, fixed_part}
pub use Rattle.fit_frame.specs.declared.header.Header.{Header}
pub use Rattle.fit_frame.specs.declared.header.HeaderSum.{HeaderSum}
pub use Rattle.fit_frame.specs.declared.header.HeaderSum.TheVariants.{Absent, Zero}
pub use Rattle.fit_record.proofs.RecordLists.{all_fit-append, learn_all-append, records_bytes-append}
pub use Rattle.fit_record.specs.Environment.{Environment, empty_environment, learn, learn_all, defined_at, defined_by, describe, description}
pub use Rattle.fit_record.specs.Faults.{first_fault, HasRange}
pub use Rattle.fit_record.specs.Files.{IsWellFormed, body, summed, file_bytes, chain_bytes, chain_limit, IsWellFormedChain}
pub use Rattle.fit_record.specs.Laws.{FaultsAreExact}
pub use Rattle.fit_record.specs.Records.{Fits, AllFit, record_bytes, records_bytes, data_header, data_bytes, order_at}
pub use Rattle.fit_record.specs.Records.{HaveShape, DataFits, DataHeaderFits, layout, dev_layout}
pub use Rattle.fit_record.specs.declared.definition.MessageDef.{MessageDef}
pub use Rattle.fit_record.specs.declared.environment.Defined.{Defined}
pub use Rattle.fit_record.specs.declared.file.FitFile.{FitFile}
pub use Rattle.fit_record.specs.declared.fits.ShapeFault.{ShapeFault}
pub use Rattle.fit_record.specs.declared.fits.ShapeFault.TheVariants.{BadLocal as NoLocal, BadOffset as NoOffset, UndefinedLocal as NotDefined}
pub use Rattle.fit_record.specs.declared.fits.ShapeFault.TheVariants.{WrongShape as WrongField}
pub use Rattle.fit_record.specs.declared.message.Record.{Record}
pub use Rattle.fit_record.specs.declared.message.Record.TheVariants.{Define, Values as Data}
pub use Rattle.fit_record.specs.declared.message.Values.{Values}
pub use Rattle.fit_sum.specs.Checksum.{checksum}
pub use lib.Seq.{take-append_seam}
pub use Rattle.fit_encode.specs.Encoding.{Encoding, data_so_far, BreaksOff, HasPlace, IsWhole, IsPlaceFault, fault_when, IsComplete, closing_bytes}
pub use Rattle.fit_encode.specs.Encoding.{learned, CanPut, IsPutFault}
pub use Rattle.fit_encode.specs.Faults.{shape_fault, StopsAt, IfWrite, AtRecord, IsRecordFault, IsFileFault, IsChainLength, AtFile, IsFirstFault}
pub use Rattle.fit_encode.specs.Faults.{UnlessWrite}
pub use Rattle.fit_encode.specs.Laws.{GoodChainsHaveNoFault, FaultsAreOne, BadChainsHaveAFault, HasFileRange}
pub use Rattle.fit_encode.specs.Sinks.{Written}
pub use Rattle.fit_encode.specs.declared.fault.EncodeFault.{EncodeFault}
pub use Rattle.fit_encode.specs.declared.fault.EncodeFault.TheVariants.{Write, BadHeader, TooLong, ZeroIsSum, ChainLength, NoMemory, BadLocal}
pub use Rattle.fit_encode.specs.declared.fault.EncodeFault.TheVariants.{BadOffset, UndefinedLocal, WrongShape}
pub use Rattle.fit_encode.specs.inner.Sending.{Sending, Breaks, IsCounted, fresh, Spells, Sends, PutsAll, sink_state}
pub use Rattle.fit_encode.specs.inner.Spelling.{bytes_in_order, order_in, orders_after, size_in, sizes_after, IsWidth, HasBytes}
pub use Rattle.fit_encode.specs.inner.Spelling.{IsSpellable}
