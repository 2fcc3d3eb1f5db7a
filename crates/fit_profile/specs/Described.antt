-- Names and units of developer fields, as field description messages give them (FIT protocol, "Developer Fields").
use Rattle.std.specs.Prelude.{ℕ, ◌==◌, ◌&&◌, not, Bool, if◌then◌else◌, nat_lt, List, [], ◌∷◌, length, map, reverse, Option, Some, None, option_and_then}
use Rattle.std.specs.Prelude.{unwrap_or}
use Rattle.std.specs.List.{list_all}
use Rattle.std.specs.Str.{is_utf8}
use Rattle.fit_record.specs.declared.definition.MessageDef.{MessageDef}
use Rattle.fit_record.specs.declared.message.Values.{Values}
use Rattle.fit_record.specs.declared.message.Record.{Record}
use Rattle.fit_record.specs.declared.message.Record.TheVariants.{Define, Values as Data}
use Rattle.fit_record.specs.Environment.{Environment, defined_at, dev_defs, description}
use Rattle.fit_profile.specs.Looks.{known, first_field}

-- the name and the unit of a developer field
pub record Naming : Type 0 where
  pub name : Option (List ℕ)
  pub unit : Option (List ℕ)

-- neither a name nor a unit
abbrev pub nameless : Naming
nameless = record { name = None; unit = None }

-- a list without its first zeros
abbrev pub without_zeros : List ℕ → List ℕ
without_zeros [] = []
without_zeros (b ∷ bytes) = if b == 0 then without_zeros bytes else b ∷ bytes

-- the bytes before the closing zeros
abbrev pub before_closing_zeros : List ℕ → List ℕ
before_closing_zeros bytes = reverse (without_zeros (reverse bytes))

-- a byte that is neither a control character nor the delete character
abbrev pub is_printable : ℕ → Bool
is_printable b = (nat_lt b 0x100 && not (nat_lt b 0x20)) && not (b == 0x7F)

-- bytes that can be shown as text
abbrev pub printable_text : List ℕ → Option (List ℕ)
printable_text bytes = if (not (length bytes == 0) && list_all is_printable bytes) && is_utf8 bytes then Some bytes else None

-- the text of the first field of this number, where it is a string
abbrev pub text_field : {A : Type 0} → MessageDef A → Values A → ℕ → Option (List ℕ)
text_field d v number =
    option_and_then (λ f. if f.0.code == 0x07 then printable_text (before_closing_zeros f.1.bits) else None) (first_field d.fields v.fields number)

-- field 3 of a field description is the name, field 8 the unit
abbrev pub naming : {A : Type 0} → MessageDef A → Values A → Naming
naming d v = record { name = text_field d v 3; unit = text_field d v 8 }

-- what a message gives for the developer field of this index and number, where it describes it
abbrev pub naming_by : {A : Type 0} → MessageDef A → Values A → ℕ → ℕ → Option Naming
naming_by d v index number =
    option_and_then (λ s. if s.key.index == index && s.key.number == number then Some (naming d v) else None) (description d v)

-- the name and the unit of a developer field after a record
abbrev pub naming_after : {A : Type 0} → Environment A → Record A → ℕ → ℕ → Naming → Naming
naming_after e (Define d) index number before = before
naming_after e (Data v) index number before = unwrap_or (option_and_then (λ p. naming_by p.definition v index number) (defined_at e v.local)) before

-- the name and the unit that the last description of a developer field gives
abbrev pub naming_of : {A : Type 0} → List (Record A) → ℕ → ℕ → Naming
naming_of [] index number = nameless
naming_of (r ∷ earlier) index number = naming_after (known earlier) r index number (naming_of earlier index number)

-- those of the developer fields of a local message type after a record: a definition takes them as they are then
abbrev pub namings_after : {A : Type 0} → (ℕ → ℕ → Naming) → Record A → ℕ → List Naming → List Naming
namings_after given (Define d) local before = if d.local == local then map (λ f. given f.index f.number) (dev_defs d.dev) else before
namings_after given (Data v) local before = before

-- The names and units of the developer fields of a local message type, as they were when its definition came.
abbrev pub namings_at : {A : Type 0} → List (Record A) → ℕ → List Naming
namings_at [] local = []
namings_at (r ∷ earlier) local = namings_after (naming_of earlier) r local (namings_at earlier local)
