-- The names of std, of the crates below and of this crate's specs that several proofs use: each proof takes them from here.
pub use Rattle.std.proofs.Common.{◌≡◌, ◌∙◌, ◌++◌, ◌+◌, length, take, drop, true, false, sym, ap, refl, [], ◌∷◌, arith, subst, inl, inr, ◌≤◌, ap₂, append_assoc}
pub use Rattle.std.proofs.Common.{eq-eqb, eqb-true, Bool, map, get_or, add-one, ◌*◌, ◌/◌, ◌%◌}
pub use Rattle.std.proofs.lemmas.Bool.{cases_Bool, ne_eqb}
pub use Rattle.std.proofs.lemmas.Bool.Decides.{nat_tests}
pub use Rattle.std.proofs.lemmas.List.{nil_from_length, take_all}
pub use Rattle.std.specs.Global.{Global}
pub use Rattle.std.specs.List.{AllByRecursion, list_all}
pub use Rattle.std.specs.Prelude.{zip, ◌&&◌, not}
unfoldable pub use Rattle.std.specs.Str.{is_utf8}
pub use Rattle.csv.specs.Writing.{default_writer, field_text, needs_quotes}
pub use Rattle.fit_base.specs.BaseTypes.{base_type, item_width}
pub use Rattle.fit_base.specs.Fields.{HasShape}
pub use Rattle.fit_base.specs.declared.items.Items.{Items}
pub use Rattle.fit_base.specs.declared.number.Order.{Order}
pub use Rattle.fit_cells.proofs.PlainFacts.{unquoted, lone_cell}
pub use Rattle.fit_cells.specs.Cells.{cell, item_text}
unfoldable pub use Rattle.fit_cells.specs.Cells.{hex_digits}
pub use Rattle.fit_cells.specs.Forms.{IsFormOf}
pub use Rattle.fit_profile.specs.Profile.{Meaning}
pub use Rattle.fit_record.specs.declared.definition.FieldDef.{FieldDef}
pub use Rattle.fit_shown.specs.Shown.{shown_cell}
pub use Rattle.fit_shown.specs.Frames.{FrameText, HasFields, TakesField, TakesFields}
pub use Rattle.fit_texts.specs.Sheets.{and_sheet}
pub use Rattle.fit_shown.specs.CellKeys.{CellKey}
