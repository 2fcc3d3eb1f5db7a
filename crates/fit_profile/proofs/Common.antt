-- The names of std, of the crates below and of this crate's specs that several proofs use: each proof takes them from here.
pub use Rattle.std.proofs.Common.{inl, inr, ◌≡◌, ◌∙◌, ℕ, List, ◌/◌, arith, refl, sym, drop, drop-cons, get_or, ◌++◌, ◌∷◌, [], ◌+◌}
pub use Rattle.std.proofs.Common.{◌*◌, ◌%◌, ◌^◌, ◌<◌, ◌≤◌, zero, suc, ap, ap₂, add-one, length}
pub use Rattle.std.proofs.Common.{drop_of_length-le, eq-eqb, false, Some, None, reverse, map, cond, subst, Option, ◌-◌}
pub use Rattle.std.proofs.Common.{Bool, true, lt-ltb, le-ltb, Ordering, Less, take}
pub use Rattle.std.proofs.Common.{rules}
pub use Rattle.std.proofs.Math.Nat.{mod-lt}
pub use Rattle.std.proofs.Math.Nat.{add-mod_right, mod-add-div'}
pub use Rattle.std.proofs.lemmas.Bool.{cases_lt, cases_Bool, ne_eqb, cases_eq, and_parts, or_parts, both_ways}
pub use Rattle.std.proofs.lemmas.List.{drop-drop, reverse-append, map_more}
pub use Rattle.std.proofs.lemmas.Option.{none-some, same_Some}
pub use Rattle.std.proofs.lemmas.Str.{is_utf8-from_IsUtf8, IsUtf8-from_is_utf8}
pub use Rattle.std.specs.BTreeMap.{get, is_at, Updates, BTreeMap}
pub use Rattle.std.specs.List.{range_with_len, list_any, list_all}
pub use Rattle.std.specs.Ordering.{nat_cmp, ordering_then, is_eq}
pub use Rattle.std.specs.Prelude.{option_and_then, if◌then◌else◌, IsSomeAnd, unwrap_or, find, is_some, IsSome, slice_get}
pub use Rattle.std.specs.Str.{IsUtf8, is_utf8}
pub use Rattle.fit_base.specs.declared.items.Items.{Items}
pub use Rattle.fit_record.specs.Environment.{first_items, dev_defs, dev_key_cmp, description, Environment, empty_environment, defined_at}
pub use Rattle.fit_record.specs.Environment.{describe, described_by, learn, learn_all}
pub use Rattle.fit_record.specs.Records.{Fits, DataFits}
pub use Rattle.fit_record.specs.declared.definition.FieldDef.{FieldDef}
pub use Rattle.fit_record.specs.declared.definition.MessageDef.{MessageDef}
pub use Rattle.fit_record.specs.declared.environment.Defined.{Defined}
pub use Rattle.fit_record.specs.declared.message.Record.{Record}
pub use Rattle.fit_record.specs.declared.message.Values.{Values}
pub use Rattle.fit_profile.specs.Accumulated.{accumulated_power, distance, number_in, total_cycles, number_of}
pub use Rattle.fit_profile.specs.Described.{Naming, nameless, naming, naming_by, naming_after, namings_after, naming_of, namings_at, is_printable}
pub use Rattle.fit_profile.specs.Described.{printable_text, before_closing_zeros}
pub use Rattle.fit_profile.specs.Looks.{first_field, known}
pub use Rattle.fit_profile.specs.Meant.{Shown, meant, shown}
pub use Rattle.fit_profile.specs.Told.{told, told_at, told_of, tell, last_of, last_after}
pub use Rattle.fit_profile.specs.inner.Keeps.{KeepsRecords, described, is_key, naming_in, namings_in}
