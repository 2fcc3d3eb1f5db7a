-- The names of std, of the crates below and of this crate's specs that several proofs use: each proof takes them from here.
pub use Rattle.std.proofs.Common.{◌≡◌, ◌∙◌, ◌++◌, Bor, ◌+◌, length, take, drop, true, false, sym, ap, refl, [], ◌∷◌, arith, subst, inl, inr, zero, suc, ◌≤◌}
pub use Rattle.std.proofs.Common.{ap₂, ◌^◌, ◌-◌, append_assoc, eqb-true, Bool, map, get_or, add-one, lit<, ◌*◌, ◌/◌, ◌+ℤ◌, ◌%◌}
pub use Rattle.std.proofs.Math.Seq.{take-append-add, take-append_seam}
pub use Rattle.std.proofs.lemmas.Bool.{cases_Bool, le-ltb, lt-ltb, ltb-false, ltb-true}
pub use Rattle.std.proofs.lemmas.Bool.Decides.{Decides-eqb}
pub use Rattle.std.proofs.lemmas.List.{take-append-drop, length-map, take_more}
pub use Rattle.std.proofs.lemmas.List.{take_all}
pub use Rattle.std.proofs.lemmas.Option.{slice_get-get_or}
pub use Rattle.std.specs.List.{list_all}
pub use Rattle.std.specs.Prelude.{MatchOption, flat_map, slice_get, option_and_then, IsSomeAnd, nat_lt, find, ◌||◌}
pub use Rattle.csv.specs.Writing.{default_writer, field_text, needs_quotes}
unfoldable pub use Rattle.csv.specs.Writing.{fields_text}
pub use Rattle.fit_base.specs.BaseTypes.{base_type, item_width}
pub use Rattle.fit_base.specs.Fields.{HasShape}
pub use Rattle.fit_base.specs.declared.items.Items.{Items}
pub use Rattle.fit_base.specs.declared.number.Order.{Order}
pub use Rattle.fit_cells.proofs.AddedRows.{text_append, fields_append, fields_one, whole_row}
pub use Rattle.fit_cells.proofs.PlainFacts.{high-decimal, High, high-append, plain}
pub use Rattle.fit_cells.specs.Cells.{item_text}
unfoldable pub use Rattle.fit_cells.specs.Cells.{hex_digits}
pub use Rattle.fit_cells.specs.Forms.{IsFormOf}
pub use Rattle.fit_cells.specs.Rows.{Row}
unfoldable pub use Rattle.fit_cells.specs.Rows.{csv_text}
pub use Rattle.fit_profile.specs.Described.{Naming, nameless, namings_at, naming_of}
pub use Rattle.fit_numbers.specs.Instant.{date_digits, IsDayAfterEpoch, IsInstantText, clock_digits, four_digits, two_digits}
pub use Rattle.fit_profile.specs.Looks.{known}
pub use Rattle.fit_profile.specs.Names.{field, field_of, message_of}
pub use Rattle.fit_profile.specs.Profile.{Field, Meaning, message_index, messages, timestamp}
pub use Rattle.fit_numbers.specs.Scaled.{IsScale}
pub use Rattle.fit_record.specs.Environment.{defined_at, dev_defs}
pub use Rattle.fit_record.specs.Records.{HaveShape}
pub use Rattle.fit_record.specs.declared.definition.DevDef.{DevDef}
pub use Rattle.fit_record.specs.declared.environment.Defined.{Defined}
pub use Rattle.fit_record.specs.declared.message.Record.{Record}
pub use Rattle.fit_texts.specs.Words.{optional_number, dev_label}
pub use Rattle.fit_texts.specs.InstantText.{instant_text}
unfoldable pub use Rattle.fit_texts.specs.InstantText.{date_after, date_in_year}
pub use Rattle.fit_texts.specs.MessageKeys.{DevKey, dev_key, dev_keys}
pub use Rattle.fit_texts.specs.Minutes.{IsMinute, seconds_text}
pub use Rattle.fit_texts.specs.Sheets.{and_sheet}
