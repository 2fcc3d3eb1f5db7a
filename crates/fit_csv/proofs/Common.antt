-- The names of std, of the crates below and of this crate's specs that several proofs use: each proof takes them from here.
pub use Rattle.std.proofs.Common.{◌≡◌, ◌∙◌, ◌++◌, ◌+◌, length, take, drop, true, false, sym, ap, refl, [], ◌∷◌, arith, subst, inl, inr, zero, suc, ◌≤◌}
pub use Rattle.std.proofs.Common.{ap₂, ◌^◌, ◌-◌, append_assoc, eq-eqb, eqb-true, min, Bool, Result, Err, map, get_or, All, lit<, ◌/◌}
pub use Rattle.std.proofs.KnownBytes.{Consumes-whole, Consumes-trans}
pub use Rattle.std.proofs.Math.Seq.{take-append-add, get_or-append_seam}
pub use Rattle.std.proofs.lemmas.Bool.{cases_lt, false_from_ne_true, cases_Bool, eqb-false}
pub use Rattle.std.proofs.lemmas.Bool.Decides.{nat_tests}
pub use Rattle.std.proofs.lemmas.Fmt.{decimal_nonempty, decimal_injective}
pub use Rattle.std.proofs.lemmas.List.{take-take, reverse-reverse, length-map, map-append, reverse-append, nil_from_length, take_at}
pub use Rattle.std.proofs.lemmas.Option.{slice_get-get_or, slice_get_within, slice_get-map, IfSome_then, slice_get_read}
pub use Rattle.std.proofs.lemmas.Result.{err_from_is_err_and, MatchResult-weaker, on_ok_weaker}
pub use Rattle.std.proofs.lemmas.Slice.Zip.{length-zip}
pub use Rattle.std.specs.Cmp.Derive.{both_true}
pub use Rattle.std.specs.Global.{Global}
pub use Rattle.std.specs.Io.KnownBytes.{Appends, Consumes, IsAtEnd}
pub use Rattle.std.specs.List.{AllByRecursion, list_all}
pub use Rattle.std.specs.Option.{option_map_or}
pub use Rattle.std.specs.Prelude.{flat_map, slice_get, option_and_then, zip, IsSomeAnd, ◌↔◌, nat_lt, IsSome, find, ◌&&◌}
pub use Rattle.csv.specs.Reading.{default_config, strip_bom}
unfoldable pub use Rattle.csv.specs.Reading.{Reached}
pub use Rattle.csv.specs.Records.{fields_of}
unfoldable pub use Rattle.csv.specs.Records.{field_at}
unfoldable pub use Rattle.csv.specs.Writing.{escaped, fields_text, is_blank}
pub use Rattle.fit_base.specs.BaseTypes.{item_width}
pub use Rattle.fit_base.specs.Fields.{HasShape, items_bytes}
pub use Rattle.fit_base.specs.Numbers.{IsBytes, little_bytes, number_bytes}
pub use Rattle.fit_base.specs.declared.items.Items.{Items}
pub use Rattle.fit_base.specs.declared.number.Order.{Order}
pub use Rattle.fit_base.specs.declared.number.Order.TheVariants.{Little, Big}
pub use Rattle.fit_cells.proofs.ReadFacts.{bytes-shown, length-pairs}
pub use Rattle.fit_cells.proofs.RowFacts.{reached-first, reads_one_way, begins-otherwise, reads_back}
pub use Rattle.fit_cells.specs.Cells.{cell}
pub use Rattle.fit_cells.specs.Rows.{Row, first_line, RowsOfText}
unfoldable pub use Rattle.fit_cells.specs.Rows.{csv_text, NoneEmpty}
pub use Rattle.fit_chain.specs.Events.{Event, file_events}
pub use Rattle.fit_encode.specs.Faults.{IsFirstFault, StopsAt, AtFile, AtRecord, IfWrite, UnlessWrite}
pub use Rattle.fit_encode.specs.Laws.{GoodChainsHaveNoFault, FaultsAreOne}
pub use Rattle.fit_encode.specs.declared.fault.EncodeFault.{EncodeFault}
pub use Rattle.fit_frame.specs.Header.{SizeFits, fixed_part, header_bytes, signature, sum_part}
pub use Rattle.fit_frame.specs.declared.header.Header.{Header}
pub use Rattle.fit_frame.specs.declared.header.HeaderSum.{HeaderSum}
pub use Rattle.fit_frame.specs.declared.header.HeaderSum.TheVariants.{Zero, True}
pub use Rattle.fit_profile.specs.Described.{Naming, nameless, namings_at}
pub use Rattle.fit_numbers.specs.Laws.{TextHasOneNumber}
pub use Rattle.fit_profile.specs.Looks.{known}
pub use Rattle.fit_profile.specs.Names.{message_label, field, field_of, message_of, meaning}
pub use Rattle.fit_profile.specs.Profile.{Field, Meaning, message_index, messages, timestamp}
pub use Rattle.fit_numbers.specs.Scaled.{IsScale}
pub use Rattle.fit_profile.specs.Times.{header_time, previous_time}
pub use Rattle.fit_record.specs.Environment.{defined_at, dev_defs, Environment, empty_environment, learn, learn_all}
pub use Rattle.fit_record.specs.Files.{chain_limit, chain_bytes, IsWellFormed, IsWellFormedChain, body, file_bytes}
pub use Rattle.fit_record.specs.Records.{DataFits, Fits, dev_layout, layout, HaveShape, AllFit, DataHeaderFits, DefinitionFits, architecture, data_bytes}
pub use Rattle.fit_record.specs.Records.{data_header, definition_bytes, definition_header, dev_field_bytes, dev_part, field_bytes, order_at, record_bytes}
pub use Rattle.fit_record.specs.Records.{records_bytes}
pub use Rattle.fit_record.specs.declared.definition.DevDef.{DevDef}
pub use Rattle.fit_record.specs.declared.definition.FieldDef.{FieldDef}
pub use Rattle.fit_record.specs.declared.definition.MessageDef.{MessageDef}
pub use Rattle.fit_record.specs.declared.environment.Defined.{Defined}
pub use Rattle.fit_record.specs.declared.file.FitFile.{FitFile}
pub use Rattle.fit_record.specs.declared.message.Record.{Record}
pub use Rattle.fit_record.specs.declared.message.Record.TheVariants.{Define, Values as Data}
pub use Rattle.fit_record.specs.declared.message.Values.{Values}
pub use Rattle.fit_report.specs.Heard.{Lines, text_of}
pub use Rattle.fit_report.specs.Reports.{Channel, TextFailsIn, HasTold, Reports, ReportsChain, Tells, channel}
pub use Rattle.fit_texts.specs.Words.{optional_number, order_word}
pub use Rattle.fit_rows.specs.ChainRows.{row, chain_rows, data_rows, dev_def_row, dev_row, end_row, field_def_row, field_row}
pub use Rattle.fit_rows.specs.ChainRows.{file_row, file_rows, record_rows, field_rows, data_row, definition_rows, dev_rows, rows_of}
pub use Rattle.fit_texts.specs.Words.{rest_text, sum_word}
pub use Rattle.fit_rows.specs.ChainRows.{def_row, message_rows, dev_count}
unfoldable pub use Rattle.fit_rows.specs.ChainRows.{records_rows}
pub use Rattle.fit_rows.specs.EventTexts.{csv_line}
pub use Rattle.fit_table.specs.EventTexts.{table_text}
pub use Rattle.fit_csv.specs.Conversions.{Converts, ConvertsTo, HasWritten, RowsOf, WritesRows}
pub use Rattle.fit_csv.specs.FromText.{Answers, FromTextOf, IsTextOf, IsUnwritable, ReadsText, IsWrong, FromText, IsReadOut, read_out, written_fault}
pub use Rattle.fit_texts.specs.InstantText.{instant_text}
pub use Rattle.fit_csv.specs.Judged.{Agree, IsBadCell, DevDefInRange, FieldDefInRange, IsFileOfRows, MayGoOn, RecordInRange, CanFollow, HasNoHeader}
pub use Rattle.fit_csv.specs.Judged.{IsChainOfRows, IsCutOff, IsRefusedRow, DefinitionInRange, HeaderInRange, AreFilesOf, AreWhole, FirstRows, IsRowFault}
pub use Rattle.fit_csv.specs.Judged.{MayBeOfKind}
pub use Rattle.fit_csv.specs.Laws.{ChainsHaveOwnRows, TextsHaveOneFinding}
pub use Rattle.fit_csv.specs.RowKinds.{IsEndRow, IsFileRow, naming_at, IsDevDefRow, IsFieldDefRow, IsDevRow, IsFieldRow, IsDataRow, IsDefinitionRow}
pub use Rattle.fit_table.specs.Table.{table_of}
pub use Rattle.fit_csv.specs.declared.fault.CsvFault.{CsvFault}
pub use Rattle.fit_csv.specs.declared.from.chain.Chain.{Chain}
pub use Rattle.fit_csv.specs.declared.from.definition.DefinitionHead.{DefinitionHead}
pub use Rattle.fit_csv.specs.declared.from.definition.OpenDefinition.{OpenDefinition}
pub use Rattle.fit_csv.specs.declared.from.misfit.Misfit.{Misfit}
pub use Rattle.fit_csv.specs.declared.from.open_file.OpenFile.{OpenFile}
pub use Rattle.fit_csv.specs.declared.from.open_file.Part.{Part}
pub use Rattle.fit_csv.specs.declared.from.open_file.Part.TheVariants.{Nothing, Definition}
pub use Rattle.fit_csv.specs.inner.Misfits.{IsCellFault, IsMisfit, head_row, message_row, IsHeadRow, IsRowOfThree, IsMessageRow, HasSum, IsHeaderSize}
pub use Rattle.fit_csv.specs.inner.Misfits.{IsMessageOrEnd, global_at, IsMessageStart, HeadInRange, IsValueRow}
pub use Rattle.fit_csv.specs.inner.Progress.{CanStandNext, ChainStep, OpenStep, PartStep, file_begun, settled, with_file, DefinitionStep, DevStep, FieldStep}
pub use Rattle.fit_csv.specs.inner.Progress.{built_definition, dev_total, has_all, is_whole, with_dev_field, with_dev_items, with_field, with_items}
pub use Rattle.fit_csv.specs.inner.Progress.{with_record, DevDefStep, FieldDefStep, MessageStep, nothing_yet, opened, FileStep, is_whole_message, FitsOnceWhole}
pub use Rattle.fit_csv.specs.inner.Progress.{PartHasRoom}
unfoldable pub use Rattle.fit_csv.specs.inner.Progress.{Run}
pub use Rattle.fit_csv.specs.inner.Reporting.{HasText, csv_fault}
pub use Rattle.fit_csv.specs.inner.Seven.{AsFar, DifferAt, row_of}
pub use Rattle.fit_csv.specs.inner.SoundChain.{IsSoundChain, IsSoundCurrent, IsSoundDefinition, IsSoundFile, IsSoundMessage, IsSoundSoFar, current_rows}
pub use Rattle.fit_csv.specs.inner.SoundChain.{open_file_rows, open_rows, part_rows, rows_so_far, IsSoundPart, HaveShapeSoFar}
pub use Rattle.fit_csv.specs.inner.TextFaults.{IsTextFault, IsUnjudged, IsReadFault}
