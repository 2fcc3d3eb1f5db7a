-- What a reader is told of the messages of a file, and what it is told of a message that a block says.
use Rattle.std.specs.Prelude.{◌≡◌, ◌⊎◌, ◌==◌, ◌&&◌, ℕ, nat_le, not, if◌then◌else◌, List, [], ◌∷◌, ◌++◌, length, map, take, drop, zip}
use Rattle.std.specs.Prelude.{Option, Some, None, option_map, unwrap_or}
use Rattle.std.specs.Global.{Global}
use Rattle.fit_base.specs.declared.items.Items.{Items}
use Rattle.fit_record.specs.declared.definition.FieldDef.{FieldDef}
use Rattle.fit_record.specs.declared.definition.DevDef.{DevDef}
use Rattle.fit_record.specs.declared.definition.MessageDef.{MessageDef}
use Rattle.fit_record.specs.declared.message.Record.{Record}
use Rattle.fit_record.specs.declared.message.Record.TheVariants.{Define, Values as Data}
use Rattle.fit_record.specs.declared.message.Values.{Values}
use Rattle.fit_record.specs.Environment.{defined_at, dev_defs}
use Rattle.fit_record.specs.Faults.{or_else}
use Rattle.fit_record.specs.HeaderByte.{bit}
use Rattle.fit_profile.specs.Described.{Naming, namings_at}
use Rattle.fit_profile.specs.Looks.{known}
use Rattle.fit_profile.specs.Times.{field_time, time}
use Rattle.fit_from_messages.specs.Alone.{codes_in, message_with}
use Rattle.fit_from_messages.specs.Parts.{byte_at, definition_in, dev_entries, number_read, slots_in, text_length}
use Rattle.fit_from_messages.specs.declared.slot.Slot.{Slot}

-- ---- what a reader is told

-- Of a message: its global message number; each field with its number, base type and items; each developer field with its number and
-- index, base type, name, unit and items; its time. Sizes follow from the items.
pub record Reading : Type 0 where
  pub global : ℕ
  pub fields : List (FieldDef × Items Global)
  pub dev : List (DevDef × (ℕ × (Naming × Items Global)))
  pub time : Option ℕ

-- by a definition, the base types, names and units of its developer fields, the items, and the time
abbrev pub reading_by : MessageDef Global → List ℕ → List Naming → Values Global → Option ℕ → Reading
reading_by d codes namings v t = record {
  global = d.global;
  fields = zip d.fields v.fields;
  dev = zip (dev_defs d.dev) (zip codes (zip namings v.dev));
  time = t;
}

-- of a data message after these records of its file, the latest first
abbrev pub reading_after : List (Record Global) → Values Global → Option Reading
reading_after before v =
    option_map (λ p. reading_by p.definition p.dev_codes (namings_at before v.local) v (time before (Data v))) (defined_at (known before) v.local)

-- of all data messages of a file, in their order; its records stand latest first
abbrev pub readings : List (Record Global) → List Reading
readings [] = []
readings (Define d ∷ before) = readings before
readings (Data v ∷ before) = readings before ++ unwrap_or (option_map (λ r. r ∷ []) (reading_after before v)) []

-- ---- what a message's block says by the block of its definition

-- the text that begins at a place of an entry; one of no bytes is none
abbrev pub text_in : ℕ → List ℕ → Option (List ℕ)
text_in place entry =
    if text_length (drop place entry) == 0 then None else Some (take (text_length (drop place entry)) (drop place entry))

-- The name of a developer field begins at 32, and its unit where the entry says.
abbrev pub entry_naming : List ℕ → Naming
entry_naming entry = record { name = text_in 32 entry; unit = text_in (number_read 2 2 entry) entry }

abbrev pub entry_namings : List ℕ → List Naming
entry_namings definition = map entry_naming (dev_entries definition)

-- What the block of a definition says by itself: base types, names and units of the developer fields too, and where the items of its messages
-- are.
pub record Form : Type 0 where
  pub definition : MessageDef Global
  pub codes : List ℕ
  pub namings : List Naming
  pub slots : List Slot

abbrev pub form_in : List ℕ → Form
form_in block = record {
  definition = definition_in block;
  codes = codes_in block;
  namings = entry_namings block;
  slots = slots_in block;
}

-- the items of a message of this form, with this local message type and time offset
abbrev pub values_by : Form → List ℕ → ℕ → Option ℕ → Values Global
values_by f block local offset = message_with block f.slots (length f.definition.fields) local offset

-- the time of its own field, which counts before that of a compressed header
abbrev pub fields_time : Form → List ℕ → Option ℕ
fields_time f block = field_time f.definition (values_by f block 0 None)

-- the time of its compressed header, where it says that one is told
abbrev pub header_time_in : List ℕ → Option ℕ
header_time_in block =
    if (nat_le 40 (length block) && not (byte_at 7 block == 0xFF)) && bit 1 (byte_at 5 block) then Some (number_read 4 32 block) else None

-- what is said by a block of this form
abbrev pub said_reading : Form → List ℕ → Reading
said_reading f block = reading_by f.definition f.codes f.namings (values_by f block 0 None) (or_else (fields_time f block) (header_time_in block))

-- ---- the same with a timestamp

-- the field that says a time, with its item
abbrev pub timestamp_field : ℕ → FieldDef × Items Global
timestamp_field t = (record { number = 253; size = 4; code = 0x86 }, record { width = 4; bits = t ∷ [] })

-- the same form with it before the other fields; its item is where a block has the time of its header
abbrev pub dated : Form → Form
dated f = record f {
  definition = record f.definition { fields = (timestamp_field 0).0 ∷ f.definition.fields };
  slots = record { place = 32; width = 4; count = 1 } ∷ f.slots;
}

-- A reader is told just what was put; or, where its time was that of a compressed header which would say another here, the same with that
-- time in a field before the others.
abbrev pub IsReadAs : Reading → Reading → Type 0
IsReadAs put r = (r ≡ put) ⊎ ((t : ℕ) × (put.time ≡ Some t) × (r ≡ record put { fields = timestamp_field t ∷ put.fields }))

-- message by message
abbrev pub AllReadAs : List Reading → List Reading → Type 0
AllReadAs [] [] = Unit {0}
AllReadAs (put ∷ puts) (r ∷ rs) = IsReadAs put r × AllReadAs puts rs
AllReadAs _ _ = ⊥
