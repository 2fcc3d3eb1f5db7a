-- The names of std, of the crates below and of this crate's specs that several proofs use: each proof takes them from here.
pub use Rattle.std.proofs.Common.{◌≡◌, ◌∙◌, ◌++◌, ◌+◌, length, take, drop, true, false, sym, ap, refl, [], ◌∷◌, arith, subst, zero, suc, ◌≤◌, ap₂}
pub use Rattle.std.proofs.Common.{append_assoc, eq-eqb, Bool, map, get_or, OnOk}
pub use Rattle.std.proofs.lemmas.Bool.{ne_eqb}
pub use Rattle.std.proofs.lemmas.List.{length-map, map-append, take_more, reverse-append, take_all}
pub use Rattle.std.proofs.lemmas.Result.{on_ok_weaker}
pub use Rattle.std.specs.Global.{Global}
pub use Rattle.std.specs.Prelude.{flat_map, option_and_then, zip, ◌||◌}
pub use Rattle.fit_base.specs.declared.items.Items.{Items}
pub use Rattle.fit_chain.specs.Events.{Event, file_events, header, item, file_end}
pub use Rattle.fit_profile.specs.Described.{Naming, namings_at}
pub use Rattle.fit_profile.specs.Looks.{known}
pub use Rattle.fit_profile.specs.Names.{message_label, field}
pub use Rattle.fit_profile.specs.Times.{time}
pub use Rattle.fit_record.specs.Environment.{defined_at, dev_defs}
pub use Rattle.fit_record.specs.Files.{body}
pub use Rattle.fit_record.specs.Records.{dev_layout, layout}
pub use Rattle.fit_record.specs.declared.definition.DevDef.{DevDef}
pub use Rattle.fit_record.specs.declared.definition.FieldDef.{FieldDef}
pub use Rattle.fit_record.specs.declared.environment.Defined.{Defined}
pub use Rattle.fit_record.specs.declared.file.FitFile.{FitFile}
pub use Rattle.fit_record.specs.declared.message.Record.{Record}
pub use Rattle.fit_record.specs.declared.message.Record.TheVariants.{Values as Data}
pub use Rattle.fit_record.specs.declared.message.Values.{Values}
pub use Rattle.fit_report.specs.Heard.{Lines, text_of, latest_records}
pub use Rattle.fit_text_report.specs.KeptEvents.{files_heard}
pub use Rattle.fit_texts.specs.InstantText.{instant_text}
pub use Rattle.fit_show.specs.ShowLines.{header_line, record_line, show_line, show_lines, listed, message_line, separator, shown_part, shown_dev, shown_field}
pub use Rattle.fit_show.specs.ShowLines.{joined, message_front, shown_devs, shown_fields, time_part, unit_part}
pub use Rattle.fit_shown.specs.Shown.{shown_cell}
unfoldable pub use Rattle.fit_show.specs.ShowLines.{record_lines, show_files}
pub use Rattle.fit_shown.specs.Frames.{HasFields, HasItems, TakesFields}
pub use Rattle.fit_texts.specs.MessageKeys.{DevKey, MessageKey, dev_keys, message_key}
pub use Rattle.fit_texts.specs.Sheets.{and_sheet}
pub use Rattle.fit_show.specs.inner.Showing.{ShownKey, first_head, key_text, keys_text, line_front, shown_key, shown_keys, PartKey, dev_field_part}
pub use Rattle.fit_show.specs.inner.Showing.{field_part, line_head, line_keys, line_shapes, line_text, own_end, own_parts, part_texts}
