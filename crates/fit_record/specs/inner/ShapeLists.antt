-- The base type codes and sizes that a layout reads.
use Rattle.std.specs.Prelude.{◌≡◌, ℕ, List, length, map, zip}
use Rattle.fit_record.specs.declared.layout.Shapes.{Shapes}
use Rattle.fit_record.specs.declared.layout.Shapes.TheVariants.{Fields, DevFields}

-- base type code and size of each
abbrev pub shapes_of : Shapes → List (ℕ × ℕ)
shapes_of (Fields fields) = map (λ f. (f.code, f.size)) fields.now
shapes_of (DevFields codes fields) = zip codes.now (map (λ f. f.size) fields.now)

-- There is a code for each developer field.
abbrev pub HaveCodes : Shapes → Type 0
HaveCodes (Fields fields) = Unit {0}
HaveCodes (DevFields codes fields) = length codes.now ≡ length fields.now
