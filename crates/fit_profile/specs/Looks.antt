-- Looking back over the records of a file. Records before another one stand latest first.
use Rattle.std.specs.Prelude.{ℕ, ◌==◌, if◌then◌else◌, List, [], ◌∷◌, Option, Some, None}
use Rattle.fit_base.specs.declared.items.Items.{Items}
use Rattle.fit_record.specs.declared.definition.FieldDef.{FieldDef}
use Rattle.fit_record.specs.declared.message.Record.{Record}
use Rattle.fit_record.specs.Environment.{Environment, empty_environment, learn}

-- what is known after these records
abbrev pub known : {A : Type 0} → List (Record A) → Environment A
known [] = empty_environment
known (r ∷ earlier) = learn (known earlier) r

-- the first field of this number, with its items
abbrev pub first_field : {A : Type 0} → List FieldDef → List (Items A) → ℕ → Option (FieldDef × Items A)
first_field (f ∷ fields) (i ∷ items) number = if f.number == number then Some (f, i) else first_field fields items number
first_field _ _ number = None
