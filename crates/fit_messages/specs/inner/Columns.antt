-- What the block of a definition is made of. No public contract names these.
use Rattle.std.specs.Prelude.{ℕ, List, map, sum_by, zip}
use Rattle.fit_profile.specs.Described.{Naming}
use Rattle.fit_record.specs.declared.definition.DevDef.{DevDef}
use Rattle.fit_messages.specs.Blocks as blocks
use Rattle.fit_messages.specs.Blocks.{dev_column, whole}
use Rattle.fit_messages.specs.declared.definition.Column.{Column}

-- a field as it is kept
abbrev pub said : Column → blocks.Column
said c = record {
  number = c.number;
  developer = c.developer;
  index = c.index;
  code = c.code;
  size = c.size;
  meaning = record { name = c.name.now; unit = c.unit.now; scale = c.scale; offset = c.offset };
}

-- developer fields, each with its code and its naming
abbrev pub dev_columns : List DevDef → List ℕ → List Naming → List blocks.Column
dev_columns fields dev_codes namings = map (λ x. dev_column x.0.0 x.0.1 x.1) (zip (zip fields dev_codes) namings)

-- how many bytes the items of fields have in a message's block
abbrev pub widths : List blocks.Column → ℕ
widths columns = sum_by (λ c. whole c.size) columns
