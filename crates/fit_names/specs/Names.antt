-- What the profile says of a message and of a field, and the labels that they are shown by.
use Rattle.std.specs.Prelude.{ℕ, ◌==◌, if◌then◌else◌, List, ◌++◌, Option, Some, option_and_then, option_map, unwrap_or, find, codes, decimal}
use Rattle.fit_names.specs.declared.profile.Info.{Info}
use Rattle.fit_names.specs.Profile.{Meaning, Field, Message, messages, timestamp, message_index}

-- what an `Info` says
abbrev pub meaning : Info → Meaning
meaning i = record { name = i.name.now; unit = i.unit.now; scale = i.scale; offset = i.offset }

-- the listed message of a global number
abbrev pub message_of : ℕ → Option Message
message_of global = find (λ m. m.global == global) messages

-- what is said of the field of this number among these
abbrev pub field_of : List Field → ℕ → Option Meaning
field_of fields number = option_map (λ f. f.meaning) (find (λ f. f.number == number) fields)

-- what is said of a field of a message
abbrev pub field : ℕ → ℕ → Option Meaning
field global number =
    if number == 253 then Some timestamp.meaning
    else option_and_then (λ m. if number == 254 then Some message_index.meaning else field_of m.fields number) (message_of global)

abbrev pub message_name : ℕ → Option (List ℕ)
message_name global = option_map (λ m. m.name) (message_of global)

-- the name of a message, or `message_` and its number
abbrev pub message_label : ℕ → List ℕ
message_label global = unwrap_or (message_name global) (codes "message_" ++ decimal global)

-- the name of a field, or `field_` and its number
abbrev pub field_label : ℕ → ℕ → List ℕ
field_label global number = unwrap_or (option_map (λ m. m.name) (field global number)) (codes "field_" ++ decimal number)
