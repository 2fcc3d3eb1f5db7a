-- How much a reader of records keeps.
use Rattle.std.specs.Prelude.{◌≡◌, ℕ, ◌+◌, ◌*◌, false, [], length, sum_by, IsSomeAnd}
use Rattle.std.specs.Option.{option_map_or}
use Rattle.fit_record.specs.declared.definition.MessageDef.{MessageDef}
use Rattle.fit_record.specs.Environment.{Environment, defined_at, dev_defs}
use Rattle.fit_record.specs.HeaderByte.{is_definition, local_type}

-- the most bytes after the record header of a data message: those of 255 fields and 255 developer fields, 255 bytes each
abbrev pub body_limit : ℕ
body_limit = 2 * 255 * 255

-- no fields, and no developer fields
abbrev pub HasNoFields : {A : Type 0} → MessageDef A → Type 0
HasNoFields d = (d.fields ≡ []) × (dev_defs d.dev ≡ [])

-- The byte heads a data message of a definition without fields and developer fields.
abbrev pub HeadsEmptyMessage : {A : Type 0} → Environment A → ℕ → Type 0
HeadsEmptyMessage e b = (is_definition b ≡ false) × IsSomeAnd (defined_at e (local_type b)) (λ p. HasNoFields p.definition)

-- fields and developer fields
abbrev pub entry_count : {A : Type 0} → MessageDef A → ℕ
entry_count d = length d.fields + length (dev_defs d.dev)

-- The fields and developer fields of all definitions in their places, and the described developer fields.
abbrev pub environment_size : {A : Type 0} → Environment A → ℕ
environment_size e = sum_by (λ p. option_map_or (λ q. entry_count q.definition) p 0) e.places + length e.described
