-- The words for values in rows and lines, and what is there where a value is absent.
use Rattle.std.specs.Prelude.{ℕ, List, [], ◌∷◌, ◌++◌, option_map, unwrap_or, Option, codes, decimal}
use Rattle.fit_base.specs.declared.number.Order.{Order}
use Rattle.fit_base.specs.declared.number.Order.TheVariants.{Little, Big}
use Rattle.fit_frame.specs.declared.header.HeaderSum.{HeaderSum}
use Rattle.fit_frame.specs.declared.header.HeaderSum.TheVariants.{Absent, Zero, True}
use Rattle.fit_record.specs.declared.definition.DevDef.{DevDef}
use Rattle.fit_profile.specs.Profile.{Meaning}
use Rattle.fit_profile.specs.Described.{Naming}
use Rattle.fit_cells.specs.Cells.{bytes_text}
use Rattle.fit_cells.specs.Rows.{Cell}

-- a number, or an empty cell
abbrev pub optional_number : Option ℕ → Cell
optional_number number = unwrap_or (option_map decimal number) []

abbrev pub sum_word : HeaderSum → Cell
sum_word Absent = codes "none"
sum_word Zero = codes "zero"
sum_word True = codes "sum"

-- the bytes of a header from place 14 on
abbrev pub rest_text : List ℕ → Cell
rest_text [] = []
rest_text (b ∷ bytes) = bytes_text (b ∷ bytes)

abbrev pub order_word : Order → Cell
order_word Little = codes "little"
order_word Big = codes "big"

-- what the profile says of a field's unit
abbrev pub unit_text : Option Meaning → Cell
unit_text info = unwrap_or (option_map (λ m. m.unit) info) []

-- the name of a developer field, or else its developer data index and its number
abbrev pub dev_label : DevDef → Naming → Cell
dev_label f n = unwrap_or n.name (codes "dev_" ++ decimal f.index ++ codes "_" ++ decimal f.number)
