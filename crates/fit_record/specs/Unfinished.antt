-- Unfinished records: whether they can be completed so that records fill the room after them.
use Rattle.std.specs.Prelude.{◌≡◌, ◌<◌, ◌*◌, length, flat_map, ℕ, ◌+◌, ◌-◌, nat_le, Bool, false, ◌&&◌, ◌||◌, if◌then◌else◌, List, [], ◌∷◌, ◌++◌, slice_index}
use Rattle.std.specs.Prelude.{sum_by}
use Rattle.std.specs.Option.{option_map_or}
use Rattle.fit_base.specs.Numbers.{IsBytes, number_bytes}
use Rattle.fit_record.specs.declared.definition.MessageDef.{MessageDef}
use Rattle.fit_record.specs.declared.message.Values.{Values}
use Rattle.fit_record.specs.declared.message.Record.TheVariants.{Define, Values as Data}
use Rattle.fit_record.specs.Environment.{Environment, defined_at, dev_defs, learn}
use Rattle.fit_record.specs.Records.{architecture, field_bytes, dev_field_bytes, definition_header, definition_bytes, DefinitionFits, message_size, data_header}
use Rattle.fit_record.specs.Records.{data_bytes, Fits, order_at}
use Rattle.fit_record.specs.Files.{CanFill}
use Rattle.fit_record.specs.Rooms.{can_fill, can_fill_with, can_fill_from}

-- ---- definition messages

-- The bytes begin a definition message after its record header, and records after it, once it has taken its place,
-- fill what it leaves of the room.
abbrev pub CanComplete : {A : Type 0} → Environment A → ℕ → List ℕ → ℕ → Type 0
CanComplete {A} e header part room =
    (d : MessageDef A) × (rest : List ℕ) × (left : ℕ) × DefinitionFits d
    × (definition_header d ≡ header) × (definition_bytes d ≡ part ++ rest) × IsBytes rest
    × CanFill (learn e (Define d)) left × (length rest + left ≡ room)

-- Of `count` entries of three bytes, `whole` have come and some bytes of the next one, and `to_come` bytes are to come.
abbrev pub IsCut : ℕ → ℕ → List ℕ → ℕ → Type 0
IsCut count whole entry to_come = (length entry < 3) × (3 * whole + length entry + to_come ≡ 3 * count)

-- a definition message up to some of its fields, and up to some of its developer fields
abbrev pub fields_part : {A : Type 0} → MessageDef A → ℕ → List ℕ → List ℕ
fields_part d count entry =
    d.reserved ∷ architecture d.order ∷ number_bytes d.order 2 d.global ++ count ∷ flat_map field_bytes d.fields ++ entry

abbrev pub dev_fields_part : {A : Type 0} → MessageDef A → ℕ → List ℕ → List ℕ
dev_fields_part d count entry =
    fields_part d (length d.fields) [] ++ count ∷ flat_map dev_field_bytes (dev_defs d.dev) ++ entry

-- the sum of the sizes that have come: those of whole entries, and the one in an entry of two bytes
abbrev pub size_so_far : {A : Type 0} → MessageDef A → List ℕ → ℕ
size_so_far d entry = sum_by (λ f. f.size) d.fields + sum_by (λ f. f.size) (dev_defs d.dev) + slice_index entry 1

-- What is left after the entries can be filled. With two bytes of them and more to come, a size is among these.
abbrev pub finishes : {A : Type 0} → Environment A → ℕ → ℕ → ℕ → ℕ → Bool
finishes e local to_come size left =
    if nat_le 2 to_come then can_fill_from e local size left else can_fill_with e local size left

-- Only bytes of entries are to come.
abbrev pub can_complete : {A : Type 0} → Environment A → ℕ → ℕ → ℕ → ℕ → Bool
can_complete e local to_come size room = nat_le to_come room && finishes e local to_come size (room - to_come)

-- So is the number of developer fields: there will be none, or one whose size suits the room.
abbrev pub can_complete_dev : {A : Type 0} → Environment A → ℕ → ℕ → ℕ → ℕ → Bool
can_complete_dev e local to_come size room =
    let left = room - (to_come + 1) in
    nat_le (to_come + 1) room && (finishes e local to_come size left || (nat_le 3 left && can_fill_from e local size (left - 3)))

-- So is the number of fields, or a byte before it: there will be none.
abbrev pub can_complete_front : Bool → ℕ → ℕ → Bool
can_complete_front dev come room = nat_le (if dev then 6 else 5) (come + room)

-- ---- data messages

-- The bytes begin what follows this record header in a data message, and records after it fill what it leaves of the room.
abbrev pub CanCarry : {A : Type 0} → Environment A → ℕ → List ℕ → ℕ → Type 0
CanCarry {A} e header part room =
    (v : Values A) × (rest : List ℕ) × (left : ℕ) × Fits e (Data v)
    × (data_header v.local v.offset ≡ header) × (data_bytes (order_at e v.local) v ≡ part ++ rest) × IsBytes rest
    × CanFill (learn e (Data v)) left × (length rest + left ≡ room)

-- The local message type is defined, and its data messages leave of the room after a record header what can be filled.
abbrev pub can_carry : {A : Type 0} → Environment A → ℕ → ℕ → Bool
can_carry e local room =
    option_map_or (λ p. nat_le (message_size p) room && can_fill e (room - message_size p)) (defined_at e local) false
