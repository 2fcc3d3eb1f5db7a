-- The names of std, of the crates below and of this crate's specs that several proofs use: each proof takes them from here.
pub use Rattle.std.proofs.Common.{◌≡◌, ℕ, ◌+◌, ◌-◌, List, ◌++◌, length-append, ◌<◌, ◌≤◌, ◌↔◌, IsTrue, Bool, true, false, length, refl, sym, ap, ◌∙◌, subst}
pub use Rattle.std.proofs.Common.{arith, None, Some, [], ◌∷◌, lit<, lit≤, zero, suc, ◌*◌, ◌/◌, ◌%◌, ◌^◌, ◌⊎◌, inl, inr, append_assoc, get_or, cond, drop, set}
pub use Rattle.std.proofs.Common.{take, ltb, ltb-true, lt-ltb, ◌≢◌, ltb-false, rules, ne_eqb, replicate}
pub use Rattle.std.proofs.Math.ListN.{length-set}
pub use Rattle.std.proofs.Math.Nat.{suc-mul}
pub use Rattle.std.proofs.lemmas.Bool.{true≢false, and_parts, and_from, and_left, leb-true, le-leb, lt-leb, or_right, eq-eqb, or_cases, or_left, cases_lt}
pub use Rattle.std.proofs.lemmas.Bool.{eqb-true, cases_eq, or_from, eqb-false, and_cases, or_parts, not-false, both_ways}
pub use Rattle.std.proofs.lemmas.List.{length-replicate, append-nil, length-map, drop_more, drop-drop, take-append-drop, length-take-le, length-drop}
pub use Rattle.std.proofs.lemmas.List.{get_or-set_other, drop_all, map_more, take_all, drop-take, take-take}
pub use Rattle.std.proofs.lemmas.List.Folds.{list_any_at, list_any_more}
pub use Rattle.std.proofs.lemmas.List.Sums.{sum_by-cons, sum_by-append, sum_by_more}
pub use Rattle.std.proofs.lemmas.Option.{slice_get_within, get_or_from_slice_get, none-some, slice_get_read, slice_get-get_or}
pub use Rattle.std.specs.List.{AllByRecursion}
pub use Rattle.std.specs.Option.{option_map_or}
pub use Rattle.std.specs.Prelude.{option_map, nat_le, ◌&&◌, IfSome, IsSomeAnd, sum_by, flat_map, ◌==◌, ◌||◌, if◌then◌else◌, unwrap_or, slice_index, slice_set}
pub use Rattle.std.specs.Prelude.{option_and_then, slice_get, Result, IfOk, zip, IfErr, OnErr, Option, Ok, Err, map, not}
pub use Rattle.fit_base.proofs.ByteLists.{IsBytes-append, IsBytes-zeros, IsBytes-cons, IsBytes-none, IsBytes-take, IsBytes-drop, IsBytes-tail, slice_is_bytes}
pub use Rattle.fit_base.proofs.Bytes.{front_back, one_number, length-number_bytes}
pub use Rattle.fit_base.proofs.ShapeTests.{length-items_bytes, test_of_shape, shape_of_test, is_has_shape}
pub use Rattle.fit_base.specs.Fields.{HasShape, items_bytes, has_shape}
pub use Rattle.fit_base.specs.Numbers.{IsBytes, number_bytes, number, little_bytes}
pub use Rattle.fit_base.specs.declared.items.Items.{Items}
pub use Rattle.fit_base.specs.declared.number.Order.{Order}
pub use Rattle.fit_base.specs.declared.number.Order.TheVariants.{Little, Big}
pub use Rattle.fit_frame.specs.Header.{header_bytes}
unfoldable pub use Rattle.fit_sum.specs.Checksum.{checksum}
pub use Rattle.fit_record.specs.DefinitionLengths.{definition_length, dev_length}
pub use Rattle.fit_record.specs.Environment.{Environment, defined_at, learn, dev_defs, dev_code, defined_by, describe, description, first_items}
pub use Rattle.fit_record.specs.Environment.{empty_environment, learn_all, dev_key_cmp}
pub use Rattle.fit_record.specs.Faults.{first_fault, or_else, wrong_from, header_fault, body_fault, definition_fault, data_fault}
pub use Rattle.fit_record.specs.Files.{CanFill, file_bytes, IsFile, IsChain, body, summed, IsWellFormed}
pub use Rattle.fit_record.specs.HeaderByte.{bit, is_compressed, is_definition, has_reserved_bit, local_type, time_offset}
pub use Rattle.fit_record.specs.Laws.{ChainOfOne, FaultsAreExact, FilesHaveOneSpelling, RecordsHaveOneSpelling}
pub use Rattle.fit_record.specs.Records.{data_header, DataHeaderFits, data_bytes, DataFits, order_at, message_size, architecture, field_bytes, dev_part}
pub use Rattle.fit_record.specs.Records.{definition_bytes, body_length, dev_field_bytes, definition_header, AllFit, record_bytes, records_bytes, HaveShape}
pub use Rattle.fit_record.specs.ReadMessages.{numbers_of, field_from, fields_from, values_from}
pub use Rattle.fit_record.specs.Records.{Fits, DefinitionFits, layout, dev_layout, sizes, IsRecord}
pub use Rattle.fit_record.specs.Rooms.{fills, has_length, can_fill, others_have, can_fill_with, can_fill_from, has_length_at}
pub use Rattle.fit_record.specs.Sizes.{entry_count}
pub use Rattle.fit_record.specs.Sound.{IsSound}
pub use Rattle.fit_record.specs.Unfinished.{CanCarry, can_carry, can_complete_front, CanComplete, finishes, can_complete, can_complete_dev, IsCut, fields_part}
pub use Rattle.fit_record.specs.Unfinished.{dev_fields_part, size_so_far}
pub use Rattle.fit_record.specs.declared.definition.DevDef.{DevDef}
pub use Rattle.fit_record.specs.declared.definition.FieldDef.{FieldDef}
pub use Rattle.fit_record.specs.declared.definition.MessageDef.{MessageDef}
pub use Rattle.fit_record.specs.declared.environment.Defined.{Defined}
pub use Rattle.fit_record.specs.declared.file.FitFile.{FitFile}
pub use Rattle.fit_record.specs.declared.fits.ShapeFault.{ShapeFault}
pub use Rattle.fit_record.specs.declared.fits.ShapeFault.TheVariants.{BadLocal, BadOffset, UndefinedLocal, WrongShape}
pub use Rattle.fit_record.specs.declared.message.Record.{Record}
pub use Rattle.fit_record.specs.declared.message.Record.TheVariants.{Values as Data, Define}
pub use Rattle.fit_record.specs.inner.Kept.{IsKept, MayBeKept, AreKept}
pub use Rattle.fit_record.specs.declared.message.Values.{Values}
