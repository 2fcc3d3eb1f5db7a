-- The number that a field of a message holds, with what the profile says of the field.
use Rattle.std.specs.Prelude.{ℕ, Option, option_and_then, option_map, ℤ}
use Rattle.fit_record.specs.declared.definition.MessageDef.{MessageDef}
use Rattle.fit_record.specs.declared.message.Values.{Values}
use Rattle.fit_names.specs.Profile.{Meaning}
use Rattle.fit_names.specs.Names.{field}
use Rattle.fit_names.specs.Values.{first_number}
use Rattle.fit_profile.specs.Looks.{first_field}

-- the number of the first field of this number, with what the profile says of the field
abbrev pub known_number : {A : Type 0} → MessageDef A → Values A → ℕ → Option (ℤ × Meaning)
known_number d v number =
    option_and_then (λ f. option_and_then (λ raw. option_map (λ m. (raw, m)) (field d.global number)) (first_number f.0 f.1))
    (first_field d.fields v.fields number)
