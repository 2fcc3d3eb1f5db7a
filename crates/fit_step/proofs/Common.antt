-- The names of std, of the crates below and of this crate's specs that several proofs use: each proof takes them from here.
pub use Rattle.std.proofs.Common.{◌≡◌, cond, false, ℕ, ◌+◌, ◌-◌, ◌<◌, List, [], ◌∷◌, ◌++◌, length, length-append, sym, ap, ◌∙◌, arith, Some, None, Ok, ◌↔◌}
pub use Rattle.std.proofs.Common.{IsTrue, refl, subst, ◌*◌, inl, inr, suc, ◌^◌, true, append_assoc, Err, Bool, ◌/◌, take, length-drop, get_or, ◌⊎◌, ◌%◌, zero}
pub use Rattle.std.proofs.Common.{set, lit<, rules, ◌≤◌, ◌==◌, drop, slice_index}
pub use Rattle.std.proofs.Math.ListN.{length-set}
pub use Rattle.std.proofs.Math.Nat.{div-le_self, mul-le-mul_right}
pub use Rattle.std.proofs.Math.Seq.{take-add}
pub use Rattle.std.proofs.lemmas.Bool.{cond-false, ne_eqb, both_ways, cases_Bool, cases_eq, cases_lt, cond_both, eq-eqb, eqb-true, eqb-false, lt-ltb, le-ltb}
pub use Rattle.std.proofs.lemmas.Bool.{and_parts, not-true, cond-true, le-leb, ltb-true, or_cases, ltb-false, leb-true, lt-leb}
pub use Rattle.std.proofs.lemmas.Bool.{or_left, or_right, and_from}
pub use Rattle.std.proofs.lemmas.Bool.Decides.{nat_tests, eqb_tells}
pub use Rattle.std.proofs.lemmas.List.{append-nil, flat_map_more, length-map, take-take, get_or-append_right, take_more, length-take-le}
pub use Rattle.std.proofs.lemmas.List.{get_or-set_other, map-append}
pub use Rattle.std.proofs.lemmas.List.Sums.{sum_by-cons, sum_by-append, sum_by-le}
pub use Rattle.std.proofs.lemmas.Nat.{div-mul-add, le-div}
pub use Rattle.std.proofs.lemmas.Option.{slice_get_within, get_or_from_slice_get}
pub use Rattle.std.specs.Option.{option_map_or}
pub use Rattle.std.specs.Prelude.{Option, IfSome, flat_map, option_map, unwrap_or, nat_lt, IsSomeAnd, zip, ◌&&◌, ◌||◌, not, nat_le, Result, option_and_then}
pub use Rattle.std.specs.Prelude.{IsOk, IsSome, OnOk, OnErr, min, option_to_list, if◌then◌else◌, slice_get, slice_set, map, sum_by, replicate}
pub use Rattle.fit_base.proofs.ByteLists.{IsBytes-none, IsBytes-cons, IsBytes-tail, IsBytes-front, IsBytes-back, IsBytes-take, IsBytes-append, slice_is_bytes}
pub use Rattle.fit_base.proofs.Bytes.{front_back, length-number_bytes, found_passes, both}
pub use Rattle.fit_base.proofs.NumberLaws.{number_bytes-number, number-below}
pub use Rattle.fit_base.proofs.SameItems.{item_width_positive}
pub use Rattle.fit_base.specs.BaseTypes.{item_width, base_type, base_types, byte}
pub use Rattle.fit_base.specs.Fields.{items_bytes, HasShape}
pub use Rattle.fit_base.specs.Numbers.{number, IsBytes, number_bytes, number as number_of}
pub use Rattle.fit_base.specs.declared.items.Items.{Items}
pub use Rattle.fit_base.specs.declared.number.Order.{Order}
pub use Rattle.fit_base.specs.declared.number.Order.TheVariants.{Little, Big}
pub use Rattle.fit_frame.specs.declared.reason.Reason.{Reason}
pub use Rattle.fit_frame.specs.declared.reason.Reason.TheVariants.{NoFit, Overrun, Architecture, UndefinedLocal, ReservedBit}
pub use Rattle.fit_record.proofs.CarriedMessages.{can_carry_is, can_fill_after_data}
pub use Rattle.fit_record.proofs.FilledRooms.{can_fill_is, same_places}
pub use Rattle.fit_record.proofs.LargeRooms.{six_and_more}
pub use Rattle.fit_record.proofs.OneRecord.{same_fields, same_record, no_bytes}
pub use Rattle.fit_record.proofs.WrongPlace.{length-dev_layout}
pub use Rattle.fit_record.specs.Environment.{Environment, defined_at, learn, dev_defs, only_byte, description, DescribesNothing, empty_environment, learn_all}
pub use Rattle.fit_record.specs.Environment.{defined_by, describe, described_by, dev_code, dev_key_cmp, first_items, only}
pub use Rattle.fit_record.specs.Files.{CanFill}
pub use Rattle.fit_record.specs.HeaderByte.{is_definition, has_reserved_bit, local_type, bit, has_developer_fields}
pub use Rattle.fit_record.specs.Records.{order_at, message_size, data_header, DataHeaderFits, data_bytes, record_bytes, Fits, architecture, field_bytes}
pub use Rattle.fit_record.specs.Records.{dev_field_bytes, dev_part, definition_header, definition_bytes, DefinitionFits, layout, dev_layout, sizes, DataFits}
pub use Rattle.fit_record.specs.Records.{HaveShape, AllFit, records_bytes, IsRecord, body_length}
pub use Rattle.fit_record.specs.Rooms.{can_fill, can_fill_with, can_fill_from, others_have}
pub use Rattle.fit_record.specs.Sizes.{HasNoFields, HeadsEmptyMessage, entry_count, environment_size}
pub use Rattle.fit_record.specs.Unfinished.{can_carry, CanCarry, finishes, can_complete, can_complete_dev, CanComplete, fields_part, dev_fields_part}
pub use Rattle.fit_record.specs.Unfinished.{size_so_far, can_complete_front}
pub use Rattle.fit_record.specs.declared.definition.DevDef.{DevDef}
pub use Rattle.fit_record.specs.declared.definition.FieldDef.{FieldDef}
pub use Rattle.fit_record.specs.declared.definition.MessageDef.{MessageDef}
pub use Rattle.fit_record.specs.declared.environment.Defined.{Defined}
pub use Rattle.fit_record.specs.declared.message.Record.{Record}
pub use Rattle.fit_record.specs.declared.message.Record.TheVariants.{Values as Data, Define}
pub use Rattle.fit_record.specs.declared.message.Values.{Values}
pub use Rattle.fit_step.specs.GoingOn.{Continues, goes_on, has_dev, definition_goes_on}
pub use Rattle.fit_step.specs.Held.{entries_so_far, held_of_record, part_size, counts_so_far, item_count, items_so_far}
pub use Rattle.fit_step.specs.InProgress.{in_progress_size, IsCountable, HeldIsOfBytes, HeldIsLimited, items_in, StandsAfter}
pub use Rattle.fit_step.specs.InProgress.{IsInProgress, IsKeptMessage, ReadsRecord}
pub use Rattle.fit_step.specs.InProgress.{NoRecord, kept_size, message_held, FillFrom}
pub use Rattle.fit_step.specs.InProgress.{RecordsInProgress, IdleIsBetweenRecords, RefusedBytesHaveReasons, values_size}
pub use Rattle.fit_step.specs.Laws.{BeginningsStand, CanBecomeRecord, PartsAreTested, RecordsEnd, TakenBytesGoOn, TakenBytesEnd, RefusedBytesEndAll}
pub use Rattle.fit_step.specs.Laws.{TakenBytesStand}
pub use Rattle.fit_step.specs.Machine.{Tests, add_number, reading, values_of, step_at, Step, defining, next_field, next_dev, after_fields, dev_count_byte}
pub use Rattle.fit_step.specs.Machine.{State, NextState, begin_dev, begin_fields, new_message, no_items, new_dev, start, new_definition, definition_in_progress}
pub use Rattle.fit_step.specs.Machine.{least_rest, layout_at, dev_layout_at, definition_rest, Ends, fields_rest, dev_rest, RoomsFill, with_number}
pub use Rattle.fit_step.specs.Machine.{beyond_number}
unfoldable pub use Rattle.fit_step.specs.Machine.{field_move, dev_move, step, definition_move, message_move, header_move}
pub use Rattle.fit_step.specs.Parts.{in_definition, definition_front, fields_front, dev_front, definition_part, HasNone, IsNew, AwaitsFields, AwaitsDev}
pub use Rattle.fit_step.specs.Parts.{IsDefinitionPart, IsShut, RecordPart, nothing, in_fields, in_dev_fields, part_bytes, IsPart, state_of, taken, TakenFields}
pub use Rattle.fit_step.specs.Parts.{width_of, all_items, IsTaking, HasBegun}
pub use Rattle.fit_step.specs.Places.{state_at, Steps, TakesNone, WantsNone, PartFitsRoom, KeepsPart, Begins}
pub use Rattle.fit_step.specs.Reasons.{definition_reason, overrun_or_no_fit, record_reason, least_definition}
pub use Rattle.fit_step.specs.Skipping.{AreTogether, HasMessage, AreSkipped, size_to_skip, AreSizesToSkip, HasSizeOf}
pub use Rattle.fit_step.specs.Skipping.{HeadsMessage, IsSkipped, Learns, SkipsInSection, PassesInSection}
pub use Rattle.fit_step.specs.Tests.{tests_of, entries_complete}
pub use Rattle.fit_step.specs.declared.phase.DefinitionPhase.{DefinitionPhase}
pub use Rattle.fit_step.specs.declared.phase.DefinitionPhase.TheVariants.{Reserved, Architecture as AtArchitecture, GlobalFirst, GlobalSecond, FieldCount}
pub use Rattle.fit_step.specs.declared.phase.DefinitionPhase.TheVariants.{FieldNumber, FieldSize, FieldCode, DevCount, DevNumber, DevSize, DevIndex}
pub use Rattle.fit_step.specs.declared.phase.Phase.{Phase}
pub use Rattle.fit_step.specs.declared.phase.Phase.TheVariants.{FieldItems, DevItems, RecordHeader, Definition}
pub use Rattle.fit_step.specs.declared.position.Position.{Position}
pub use Rattle.fit_step.specs.declared.stop.Stop.{Stop}
pub use Rattle.fit_step.specs.declared.stop.Stop.TheVariants.{Refused, NoMemory}
pub use Rattle.fit_step.specs.inner.Short.{IsCutMessage, IsMissing}
pub use Rattle.fit_step.specs.inner.Runs.{Fails, NoFitFails, CutsGoOn, RecordsRunThrough}
pub use Rattle.fit_step.specs.inner.Scans.{RecordByte, StandsWithRoom, TakesByte}
pub use Rattle.fit_step.specs.inner.Steps.{IsDefining, message_begun, entered, state, Made, Defines, DefinesAt, ReadsAt, IsInField, next_with_bytes}
pub use Rattle.fit_step.specs.inner.Undone.{Adds, AddsEntry}
pub use Rattle.fit_record.proofs.RecordLengths.{length-fields, length-items, length-data, length-dev_fields}
pub use Rattle.fit_record.specs.DefinitionLengths.{dev_length}
