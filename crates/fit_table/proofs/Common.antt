-- The names of std, of the crates below and of this crate's specs that several proofs use: each proof takes them from here.
pub use Rattle.std.proofs.Common.{◌≡◌, ◌∙◌, ◌++◌, ◌+◌, length, take, drop, true, false, sym, ap, refl, [], ◌∷◌, arith, subst, inl, inr, suc, ◌≤◌, ap₂, ◌^◌, ◌-◌}
pub use Rattle.std.proofs.Common.{append_assoc, eq-eqb, Bool, negsuc, map, get_or, add-one, ◌*◌, ◌/◌, ◌%◌, ◌≢◌}
pub use Rattle.std.proofs.lemmas.Bool.{cases_Bool, lt-ltb, ne_eqb}
pub use Rattle.std.proofs.lemmas.List.{take-append-drop, take-take, reverse-append, length-take}
pub use Rattle.std.proofs.lemmas.Result.{on_ok_weaker}
pub use Rattle.std.specs.Global.{Global}
pub use Rattle.std.specs.List.{AllByRecursion}
pub use Rattle.std.specs.Prelude.{flat_map, slice_get, option_and_then, IsSomeAnd, nat_lt, ◌||◌, ◌&&◌, not}
pub use Rattle.csv.specs.Writing.{default_writer, needs_quotes}
unfoldable pub use Rattle.csv.specs.Writing.{escaped, fields_text, is_blank}
pub use Rattle.fit_base.specs.BaseTypes.{base_type, item_width}
pub use Rattle.fit_base.specs.Numbers.{IsBytes, twos_complement}
pub use Rattle.fit_base.specs.declared.items.Items.{Items}
pub use Rattle.fit_base.specs.declared.number.Order.{Order}
pub use Rattle.fit_cells.proofs.AddedRows.{text_append, fields_one}
pub use Rattle.fit_cells.proofs.PlainFacts.{high-decimal, unquoted, High, high-fixed}
pub use Rattle.fit_cells.proofs.RowFacts.{begins-otherwise, reads_back}
pub use Rattle.fit_cells.specs.Cells.{item_text}
pub use Rattle.fit_cells.specs.Forms.{IsFormOf}
pub use Rattle.fit_cells.specs.Rows.{Row, RowsOfText, HasRows}
unfoldable pub use Rattle.fit_cells.specs.Rows.{csv_text, NoneEmpty}
pub use Rattle.fit_chain.specs.Events.{Event, file_events, item, file_end}
pub use Rattle.fit_numbers.specs.FixedText.{fixed_text}
unfoldable pub use Rattle.fit_numbers.specs.FixedText.{last_digits}
pub use Rattle.fit_profile.specs.KnownNumber.{known_number}
pub use Rattle.fit_profile.specs.Looks.{known, first_field}
pub use Rattle.fit_profile.specs.Names.{field}
pub use Rattle.fit_profile.specs.Profile.{Meaning}
pub use Rattle.fit_numbers.specs.Scaled.{IsDegrees, IsScale}
pub use Rattle.fit_profile.specs.Values.{IsValueOf, first_number, valid_number}
pub use Rattle.fit_numbers.specs.declared.decimal.Fixed.{Fixed}
pub use Rattle.fit_record.specs.Environment.{defined_at}
pub use Rattle.fit_record.specs.Records.{dev_layout, layout}
pub use Rattle.fit_record.specs.declared.definition.FieldDef.{FieldDef}
pub use Rattle.fit_record.specs.declared.definition.MessageDef.{MessageDef}
pub use Rattle.fit_record.specs.declared.environment.Defined.{Defined}
pub use Rattle.fit_record.specs.declared.file.FitFile.{FitFile}
pub use Rattle.fit_record.specs.declared.message.Record.{Record}
pub use Rattle.fit_record.specs.declared.message.Record.TheVariants.{Define, Values as Data}
pub use Rattle.fit_record.specs.declared.message.Values.{Values}
pub use Rattle.fit_report.specs.Heard.{text_of}
pub use Rattle.fit_text_report.specs.KeptEvents.{files_heard, next_records, next_files}
pub use Rattle.fit_table.specs.EventTexts.{table_text}
pub use Rattle.fit_texts.specs.InstantText.{instant_text}
unfoldable pub use Rattle.fit_texts.specs.InstantText.{date_after, date_in_year}
pub use Rattle.fit_table.specs.Table.{table_of, amount_text, value_text, degrees_text, table_line, table_record_rows, table_message_rows, table_row, table_rows}
pub use Rattle.fit_table.specs.Table.{table_event_rows}
unfoldable pub use Rattle.fit_table.specs.Table.{table_events_rows, table_files_rows, table_records_rows}
pub use Rattle.fit_texts.specs.Minutes.{seconds_text}
pub use Rattle.fit_table.specs.inner.TableCells.{shown_text, PutsCell, AddsCell, effort_cells, place_cells}
pub use Rattle.fit_table.specs.inner.TableColumns.{ArePlaces, AreInBytes, TellsAmounts, IsColumn, IsFirst, IsPosition, items_at, shapes}
