-- How many bytes a definition message has.
use Rattle.std.specs.Prelude.{ℕ, ◌+◌, ◌*◌, List, length, Option, Some, None}
use Rattle.fit_record.specs.declared.definition.MessageDef.{MessageDef}
use Rattle.fit_record.specs.declared.definition.DevDef.{DevDef}

-- the number of developer fields, and three bytes for each
abbrev pub dev_length : Option (List DevDef) → ℕ
dev_length None = 0
dev_length (Some fields) = 1 + 3 * length fields

-- the record header, five bytes, and three for each field
abbrev pub definition_length : {A : Type 0} → MessageDef A → ℕ
definition_length d = 6 + 3 * length d.fields + dev_length d.dev
