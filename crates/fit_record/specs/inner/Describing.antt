-- What a walk over the fields of a field description has found.
use Rattle.std.specs.Prelude.{◌≡◌, ◌≤◌, ℕ, Option, Some, None, option_and_then}
use Rattle.fit_record.specs.declared.definition.FieldDef.{FieldDef}
use Rattle.fit_record.specs.declared.learn.Description.{Description}

-- what was found already, or else what comes later
abbrev pub so_far : Option ℕ → Option ℕ → Option ℕ
so_far None later = later
so_far (Some n) later = Some n

-- the description of a developer data index, a field number and a base type code, where all three are there
abbrev pub described_by_three : Option ℕ → Option ℕ → Option ℕ → Option Description
described_by_three a b c =
    option_and_then (λ index. option_and_then (λ number. option_and_then (λ code.
    Some (record { key = record { index = index; number = number }; code = code })) c) b) a

-- a field that has no bytes, and is none of fields 0, 1 and 2
abbrev pub IsPassedBy : FieldDef → Type 0
IsPassedBy f = (3 ≤ f.number) × (f.size ≡ 0)
