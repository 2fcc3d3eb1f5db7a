-- Fields of several numbers.
use Rattle.std.specs.Prelude.{ℕ, List, Option, map}
use Rattle.fit_base.specs.BaseTypes.{base_type}
use Rattle.fit_profile.specs.Profile.{Meaning}
use Rattle.fit_cells.specs.Cells.{barred, item_text}

-- the numbers of a base type code and meaning that have its width, by their bits
abbrev pub numbers_text : ℕ → Option Meaning → ℕ → List ℕ → List ℕ
numbers_text code info width bits = barred (map (item_text (base_type code).class code info width) bits)
