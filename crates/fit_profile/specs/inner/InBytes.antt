-- Fields in the bytes of a message. Only private contracts name this definition.
use Rattle.std.specs.Prelude.{ℕ, List, map}
use Rattle.fit_record.specs.declared.definition.FieldDef.{FieldDef}

-- base type code and size of each field
abbrev pub shapes : List FieldDef → List (ℕ × ℕ)
shapes fields = map (λ f. (f.code, f.size)) fields
