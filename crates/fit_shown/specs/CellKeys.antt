-- How the cells of a line are made of the items and the bytes of fields.
use Rattle.std.specs.Prelude.{ℕ, List, Option}
use Rattle.std.specs.Global.{Global}
use Rattle.fit_base.specs.declared.number.Order.{Order}
use Rattle.fit_record.specs.ReadMessages.{field_from}
use Rattle.fit_profile.specs.Profile.{Meaning}
use Rattle.fit_shown.specs.Shown.{shown_cell}

-- how the cell of a field is made of its items: by which base type code, size in bytes and scale
pub record CellKey : Type 0 where
  pub code : ℕ
  pub size : ℕ
  pub info : Option Meaning

-- the cell of a field by its bytes
abbrev pub field_in_line : CellKey → Order → List ℕ → List ℕ
field_in_line k order bytes = shown_cell k.code k.info (field_from {A = Global} order (k.code, k.size) bytes)
