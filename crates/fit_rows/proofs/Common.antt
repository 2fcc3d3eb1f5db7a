-- The names of std, of the crates below and of this crate's specs that several proofs use: each proof takes them from here.
pub use Rattle.std.proofs.Common.{◌≡◌, ◌∙◌, ◌++◌, ◌+◌, length, take, drop, true, false, sym, ap, refl, [], ◌∷◌, arith, subst, inl, inr, ◌≤◌, ap₂, append_assoc}
pub use Rattle.std.proofs.Common.{Bool, map, get_or}
pub use Rattle.std.proofs.lemmas.Bool.{cases_Bool}
pub use Rattle.std.proofs.lemmas.List.{length-map, map-append, take_more, reverse-append}
pub use Rattle.std.proofs.lemmas.Option.{none-some}
pub use Rattle.std.proofs.lemmas.Result.{on_ok_weaker}
pub use Rattle.std.specs.Global.{Global}
pub use Rattle.std.specs.Prelude.{flat_map, option_and_then, zip, IsSomeAnd, ◌||◌}
unfoldable pub use Rattle.std.specs.Str.{is_utf8, chars}
pub use Rattle.csv.specs.Writing.{default_writer, field_text, needs_quotes}
unfoldable pub use Rattle.csv.specs.Writing.{escaped, fields_text, is_blank}
pub use Rattle.fit_base.specs.declared.items.Items.{Items}
pub use Rattle.fit_cells.proofs.AddedRows.{text_append, fields_one, rows_both, rows_more, rows_none, text_none}
pub use Rattle.fit_cells.proofs.PlainFacts.{high-decimal, unquoted, High}
pub use Rattle.fit_cells.specs.Cells.{cell}
unfoldable pub use Rattle.fit_cells.specs.Cells.{hex_digits}
pub use Rattle.fit_cells.specs.Rows.{Row, first_line, HasRows}
unfoldable pub use Rattle.fit_cells.specs.Rows.{csv_text}
pub use Rattle.fit_chain.specs.Events.{Event, file_events, item, file_end}
pub use Rattle.fit_profile.specs.Described.{Naming, namings_at}
unfoldable pub use Rattle.fit_numbers.specs.FixedText.{last_digits}
pub use Rattle.fit_profile.specs.Looks.{known}
pub use Rattle.fit_profile.specs.Names.{message_label}
pub use Rattle.fit_profile.specs.Times.{header_time, previous_time}
pub use Rattle.fit_record.specs.Environment.{defined_at, dev_defs}
pub use Rattle.fit_record.specs.Records.{DataFits, Fits, dev_layout, layout, HaveShape}
pub use Rattle.fit_record.specs.declared.definition.DevDef.{DevDef}
pub use Rattle.fit_record.specs.declared.definition.FieldDef.{FieldDef}
pub use Rattle.fit_record.specs.declared.definition.MessageDef.{MessageDef}
pub use Rattle.fit_record.specs.declared.environment.Defined.{Defined}
pub use Rattle.fit_record.specs.declared.file.FitFile.{FitFile}
pub use Rattle.fit_record.specs.declared.message.Record.{Record}
pub use Rattle.fit_record.specs.declared.message.Record.TheVariants.{Values as Data}
pub use Rattle.fit_record.specs.declared.message.Values.{Values}
pub use Rattle.fit_report.specs.Heard.{text_of}
pub use Rattle.fit_texts.specs.Words.{optional_number, order_word}
pub use Rattle.fit_rows.specs.ChainRows.{row, chain_rows, data_rows, dev_def_row, dev_row, end_row, field_def_row, field_row, file_row, file_rows, record_rows}
pub use Rattle.fit_rows.specs.ChainRows.{field_rows, data_row, dev_rows, event_rows, rows_of, message_rows, dev_count}
pub use Rattle.fit_text_report.specs.KeptEvents.{next_records}
unfoldable pub use Rattle.fit_rows.specs.ChainRows.{records_rows, events_rows}
pub use Rattle.fit_rows.specs.EventTexts.{csv_line}
pub use Rattle.fit_texts.specs.InstantText.{instant_text}
unfoldable pub use Rattle.fit_texts.specs.InstantText.{date_after, date_in_year}
pub use Rattle.fit_rows.specs.inner.FrameKeys.{FrameKey, end_of, field_key, frame_text, frames_of, head_text, tail_text, value_row, values_text, dev_frame_key}
pub use Rattle.fit_rows.specs.inner.FrameKeys.{frame_keys, frame_shapes, key_rows, value_rows}
pub use Rattle.fit_shown.specs.Frames.{FrameText, two_cells, HasFields, HasItems, TakesFields}
pub use Rattle.fit_texts.specs.MessageKeys.{DevKey, MessageKey, dev_keys, message_key}
pub use Rattle.fit_texts.specs.Sheets.{and_sheet}
