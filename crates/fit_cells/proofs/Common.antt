-- The names of std, of the crates below and of this crate's specs that several proofs use: each proof takes them from here.
pub use Rattle.std.proofs.Common.{◌≡◌, ◌∙◌, ◌<◌, ◌≤◌, ◌+◌, ℕ, List, [], ◌∷◌, ◌++◌, length, map, drop, take, get_or, Vec, refl, sym, ap, subst}
pub use Rattle.std.proofs.Common.{append_assoc, arith, ◌⊎◌, inl, inr, Bool, true, false, eqb-true, eq-eqb, ◌%◌, ◌/◌, ◌^◌, ℤ, pos, ◌-ℤ◌, ◌*ℤ◌, zero}
pub use Rattle.std.proofs.Common.{suc, ◌-◌, ◌*◌, All, Result, Ok, Err, IfOk, Some, None, codes, cond, neg_ℤ, ◌≤ℤ◌, ◌<ℤ◌, unsigned_abs, length-append}
pub use Rattle.std.proofs.Common.{decimal, nat_lt, to_z, of_z, FitsSigned, ap₂, IfSome, lit<, negsuc, flat_map, drop-cons, add-one, mul_assoc, Bor}
pub use Rattle.std.proofs.Common.{◌≢◌, reverse, option_map, OnOk, rules, is_ok, drop_of_length-le, Decides}
pub use Rattle.std.proofs.Math.Nat.{pow-suc, mul-div_cancel, pow-succ', add-mul, mod-eq_of_lt}
pub use Rattle.std.proofs.lemmas.Bool.{cases_Bool, ne_eqb}
pub use Rattle.std.proofs.lemmas.Bool.Decides.{nat_tests}
pub use Rattle.std.proofs.lemmas.Int.{ints, to_z-of_z}
pub use Rattle.std.proofs.lemmas.List.{map-append, take_all, take_more, nil_from_length, reverse-append, reverse-reverse, ext_get_or, take_rest}
pub use Rattle.std.proofs.lemmas.List.Elements.{All-from_recursion, recursion_from_All, All-head, All-push}
pub use Rattle.std.proofs.lemmas.Option.{same_Some, none-some}
pub use Rattle.std.proofs.lemmas.Result.{IfOk-weaker}
pub use Rattle.std.proofs.lemmas.Str.{IsUtf8-from_is_utf8, IsUtf8-from_ascii}
pub use Rattle.std.specs.Fmt.{digits_onto, digit_glyph}
unfoldable pub use Rattle.std.specs.Fmt.{digits}
pub use Rattle.std.specs.Int.{w128, w64}
pub use Rattle.std.specs.List.{AllByRecursion, before_first, after_first, position_or_len, list_all}
pub use Rattle.std.specs.Prelude.{◌||◌, not}
pub use Rattle.std.specs.Str.{IsUtf8, IsAscii}
unfoldable pub use Rattle.std.specs.Str.{is_utf8, chars}
pub use Rattle.csv.specs.Machine.{Read, ends_at_end, is_end, step, after_end, in_field, start_field, start_record, ends_with, is_byte, fields_after}
pub use Rattle.csv.specs.Machine.{field_after}
unfoldable pub use Rattle.csv.specs.Machine.{next_record}
pub use Rattle.csv.specs.Reading.{ReadRecord, default_config, is_flexible, reader_state, took_first, AreRecords, is_bom, with_flexible}
unfoldable pub use Rattle.csv.specs.Reading.{strip_bom, Reached}
pub use Rattle.csv.specs.Writing.{default_writer, field_text, row_text, needs_byte, needs_quotes, escaped, read_back}
unfoldable pub use Rattle.csv.specs.Writing.{fields_text, is_blank}
pub use Rattle.csv.specs.declared.parser.Config.{Config}
pub use Rattle.csv.specs.declared.parser.State.{State}
pub use Rattle.fit_base.specs.BaseTypes.{base_type, base_types, byte, item_width}
pub use Rattle.fit_base.specs.Fields.{HasShape}
pub use Rattle.fit_base.specs.Numbers.{twos_complement}
pub use Rattle.fit_base.specs.declared.code.Class.{Class}
pub use Rattle.fit_base.specs.declared.code.Class.TheVariants.{Text, Bytes, Signed, Unsigned}
pub use Rattle.fit_base.specs.declared.items.Items.{Items}
pub use Rattle.fit_numbers.proofs.KeptTexts.{last_put, none_put, on_err_always, then_none, more_put, part_put}
pub use Rattle.fit_profile.specs.Described.{before_closing_zeros, without_zeros}
pub use Rattle.fit_numbers.specs.FixedText.{fixed_text, fraction, sign, IsIn128, StillBegins}
unfoldable pub use Rattle.fit_numbers.specs.FixedText.{last_digits}
pub use Rattle.fit_profile.specs.Names.{meaning}
pub use Rattle.fit_profile.specs.Profile.{Meaning}
pub use Rattle.fit_numbers.specs.Scaled.{decimals, IsScale, IsScaled}
pub use Rattle.fit_cells.specs.Cells.{barred, class_of, item_text, items_text, hex_digit, cell, number_text, scaled_value, begins_as_bytes}
pub use Rattle.fit_cells.specs.Cells.{string_text, bytes_text, is_plain}
unfoldable pub use Rattle.fit_cells.specs.Cells.{hex_digits}
pub use Rattle.fit_cells.specs.Forms.{IsFormOf}
pub use Rattle.fit_cells.specs.Rows.{Row, HasAdded, HasRows, written, Follows, HasRead, BeginsWithMark, RowsOfText}
unfoldable pub use Rattle.fit_cells.specs.Rows.{csv_text, NoneEmpty}
pub use Rattle.fit_cells.specs.Steps.{is_bar, hex_value}
unfoldable pub use Rattle.fit_cells.specs.Steps.{read_hex, read_pairs}
pub use Rattle.fit_cells.specs.declared.form.NumberForm.{NumberForm}
