-- The blocks of bytes of the events of a chain of files. `docs/BLOCKS.md` has them as tables of offsets.
use Rattle.std.specs.Prelude.{ℕ, ◌+◌, ◌-◌, ◌/◌, ◌%◌, ◌==◌, ◌&&◌, Bool, if◌then◌else◌, List, [], ◌∷◌, ◌++◌, length, map, flat_map, zip, sum_by, replicate}
use Rattle.std.specs.Prelude.{nat_lt, slice_index_or, slice_set, Option, Some, None, option_map, unwrap_or}
use Rattle.std.specs.List.{list_any}
use Rattle.fit_base.specs.declared.code.Class.{Class}
use Rattle.fit_base.specs.declared.code.Class.TheVariants.{Signed, Unsigned, Text, Float, Bytes}
use Rattle.fit_base.specs.declared.items.Items.{Items}
use Rattle.fit_base.specs.declared.number.Order.TheVariants.{Little}
use Rattle.fit_base.specs.BaseTypes.{base_type, item_width}
use Rattle.fit_base.specs.Fields.{items_bytes}
use Rattle.fit_base.specs.Numbers.{little_bytes}
use Rattle.fit_frame.specs.declared.header.Header.{Header}
use Rattle.fit_frame.specs.declared.header.HeaderSum.{HeaderSum}
use Rattle.fit_frame.specs.declared.header.HeaderSum.TheVariants.{Absent, Zero, True}
use Rattle.fit_record.specs.declared.definition.FieldDef.{FieldDef}
use Rattle.fit_record.specs.declared.definition.DevDef.{DevDef}
use Rattle.fit_record.specs.declared.definition.MessageDef.{MessageDef}
use Rattle.fit_record.specs.declared.environment.Defined.{Defined}
use Rattle.fit_record.specs.declared.message.Values.{Values}
use Rattle.fit_record.specs.declared.message.Record.{Record}
use Rattle.fit_record.specs.declared.message.Record.TheVariants.{Define, Values as Data}
use Rattle.fit_record.specs.Environment.{defined_at, defined_by, dev_defs}
use Rattle.fit_record.specs.Records.{architecture, record_bytes}
use Rattle.fit_chain.specs.Events.{Event, header, item, file_end}
use Rattle.fit_numbers.specs.Scaled.{decimals}
use Rattle.fit_profile.specs.declared.told.Told.{Told}
use Rattle.fit_profile.specs.Accumulated.{is_counter}
use Rattle.fit_profile.specs.Described.{Naming, namings_at}
use Rattle.fit_profile.specs.Looks.{known}
use Rattle.fit_profile.specs.Names.{field, message_name}
use Rattle.fit_profile.specs.Profile.{Meaning}
use Rattle.fit_profile.specs.Told.{told}
use Rattle.fit_report.specs.Heard.{Lines, latest_records}

-- ---- bytes

-- the lowest bytes of a number, that many, the lowest first
unfoldable pub low : ℕ → ℕ → List ℕ
low width n = little_bytes width n

-- how many bytes are missing to a multiple of 8
abbrev pub gap : ℕ → ℕ
gap n = (8 - n % 8) % 8

-- a length with them
abbrev pub whole : ℕ → ℕ
whole n = n + gap n

-- bytes, and zeros up to a multiple of 8
abbrev pub rounded : List ℕ → List ℕ
rounded bytes = bytes ++ replicate (gap (length bytes)) 0

-- a text as C has it: its bytes, a zero, and zeros up to a multiple of 8
abbrev pub text : List ℕ → List ℕ
text bytes = rounded (bytes ++ 0 ∷ [])

-- a block: four bytes of its own length, and what comes after them
abbrev pub sized : List ℕ → List ℕ
sized rest = low 4 (4 + length rest) ++ rest

-- what comes after its length in each block: its kind, three bytes, the file, a number, and a place among all bytes
abbrev pub front : ℕ → ℕ → ℕ → ℕ → ℕ → ℕ → ℕ → List ℕ
front kind a b c file n place = kind ∷ a ∷ b ∷ c ∷ low 4 file ++ low 4 n ++ low 8 place

-- a bit that says whether there is something
abbrev pub flag : {X : Type 0} → ℕ → Option X → ℕ
flag weight None = 0
flag weight (Some x) = weight

-- ---- headers and ends

abbrev pub sum_kind : HeaderSum → ℕ
sum_kind Absent = 0
sum_kind Zero = 1
sum_kind True = 2

abbrev pub header_block : ℕ → ℕ → Header → ℕ → List ℕ
header_block file place h n = sized (front 1 h.size h.protocol (sum_kind h.sum) file n place ++ low 8 h.profile ++ rounded h.rest.items)

abbrev pub end_block : ℕ → ℕ → List ℕ
end_block file place = sized (front 4 0 0 0 file 0 place)

-- ---- definitions

-- What a definition says of a field: its number, 1 for a developer field and 0 for one of the profile, developer data index, base
-- type code, size in bytes, and what is known of its name, unit, scale and offset.
pub record Column : Type 0 where
  pub number : ℕ
  pub developer : ℕ
  pub index : ℕ
  pub code : ℕ
  pub size : ℕ
  pub meaning : Meaning

-- a field that the profile doesn't name
abbrev pub unnamed : Meaning
unnamed = record { name = []; unit = []; scale = 1; offset = 0 }

abbrev pub kind_of_class : Class → ℕ
kind_of_class Unsigned = 0
kind_of_class Signed = 1
kind_of_class Float = 2
kind_of_class Text = 3
kind_of_class Bytes = 4

-- what the items stand for: bytes where they have another width than the field's base type
abbrev pub value_kind : ℕ → ℕ → ℕ
value_kind code size = if item_width code size == (base_type code).width then kind_of_class (base_type code).class else 4

-- Scale and offset are of whole numbers alone: an item of another kind stands for itself.
abbrev pub meaning_by_kind : ℕ → Meaning → Meaning
meaning_by_kind kind m = if nat_lt kind 2 then m else record { name = m.name; unit = m.unit; scale = 1; offset = 0 }

abbrev pub column : ℕ → FieldDef → Column
column global f = record {
  number = f.number;
  developer = 0;
  index = 0;
  code = f.code;
  size = f.size;
  meaning = meaning_by_kind (value_kind f.code f.size) (unwrap_or (field global f.number) unnamed);
}

-- a developer field, with the base type code and the naming of its last description before the definition
abbrev pub dev_column : DevDef → ℕ → Naming → Column
dev_column f code n = record {
  number = f.number;
  developer = 1;
  index = f.index;
  code = code;
  size = f.size;
  meaning = record { name = unwrap_or n.name []; unit = unwrap_or n.unit []; scale = 1; offset = 0 };
}

-- the fields of a definition, and then its developer fields
abbrev pub columns : {A : Type 0} → Defined A → List Naming → List Column
columns p namings =
    map (column p.definition.global) p.definition.fields
    ++ map (λ x. dev_column x.0.0 x.0.1 x.1) (zip (zip (dev_defs p.definition.dev) p.dev_codes) namings)

-- what a field is: number, developer field or not, index, base type code, kind of value, width and number of items, decimals
abbrev pub kind_bytes : Column → List ℕ
kind_bytes c =
    c.number ∷ c.developer ∷ c.index ∷ c.code ∷ value_kind c.code c.size ∷ item_width c.code c.size ∷ c.size / item_width c.code c.size
    ∷ decimals c.meaning.scale
    ∷ []

-- where the items begin in a message's block, scale, offset, and the item that stands for no value
abbrev pub scale_bytes : ℕ → Column → List ℕ
scale_bytes at c = low 4 at ++ low 4 c.meaning.scale ++ low 4 c.meaning.offset ++ low 8 (base_type c.code).invalid

-- A field whose items begin at this place. Its name begins 32 bytes from the start of the entry, and then comes its unit.
abbrev pub entry : ℕ → Column → List ℕ
entry at c =
    low 2 (32 + length (text c.meaning.name) + length (text c.meaning.unit)) ++ low 2 (32 + length (text c.meaning.name))
    ++ kind_bytes c ++ scale_bytes at c ++ text c.meaning.name ++ text c.meaning.unit

-- fields, of which the items of the first begin at this place
abbrev pub entries : ℕ → List Column → List ℕ
entries at [] = []
entries at (c ∷ rest) = entry at c ++ entries (at + whole c.size) rest

-- Messages of this definition may tell speed, distance, cycles and power: they are records with a counter.
abbrev pub counts : {A : Type 0} → MessageDef A → Bool
counts d = d.global == 20 && list_any (λ f. is_counter f.number) d.fields

-- where the items of a message begin in its block
abbrev pub items_begin : {A : Type 0} → MessageDef A → ℕ
items_begin d = 40 + (if counts d then 32 else 0)

-- the length of the block of each message of a definition
abbrev pub message_length : {A : Type 0} → MessageDef A → ℕ
message_length d = items_begin d + sum_by (λ f. whole f.size) d.fields + sum_by (λ f. whole f.size) (dev_defs d.dev)

-- which definition of the stream it is, of which message, how many fields and developer fields it has, and which parts its messages have
abbrev pub counts_bytes : {A : Type 0} → ℕ → MessageDef A → List ℕ
counts_bytes number d =
    low 8 number ++ low 2 d.global ++ low 2 (length d.fields) ++ low 2 (length (dev_defs d.dev)) ++ low 2 (flag 1 d.dev + (if counts d then 2 else 0))

-- what stands before the entries of a definition
abbrev pub definition_opening : {A : Type 0} → ℕ → ℕ → ℕ → MessageDef A → List ℕ
definition_opening file place number d =
    front 2 d.local (architecture d.order) d.reserved file (message_length d) place ++ counts_bytes number d ++ text (unwrap_or (message_name d.global) [])

-- a definition, which is this one of the stream
abbrev pub definition_block : {A : Type 0} → ℕ → ℕ → ℕ → Defined A → List Naming → List ℕ
definition_block file place number p namings =
    sized (definition_opening file place number p.definition ++ entries (items_begin p.definition) (columns p namings))

-- ---- messages

-- the items of a field, one after another
abbrev pub slot : {A : Type 0} → Items A → List ℕ
slot items = rounded (items_bytes Little items)

-- what is told of a message
abbrev pub told_bits : Told → ℕ
told_bits t = flag 1 t.time + flag 2 t.header_time + flag 4 t.speed + flag 8 t.distance + flag 16 t.total_cycles + flag 32 t.accumulated_power

-- the greatest number of eight bytes, which stands for none
abbrev pub none : ℕ
none = 0xFFFFFFFFFFFFFFFF

abbrev pub amounts : Told → List ℕ
amounts t =
    low 8 (unwrap_or t.speed none) ++ low 8 (unwrap_or t.distance none)
    ++ low 8 (unwrap_or t.total_cycles none) ++ low 8 (unwrap_or t.accumulated_power none)

-- what stands before the items of a message
abbrev pub message_head : ℕ → ℕ → ℕ → ℕ → Option ℕ → Bool → Told → List ℕ
message_head file place number local offset counted t =
    front 3 (told_bits t) local (unwrap_or offset 0xFF) file (unwrap_or t.time 0xFFFFFFFF) place ++ low 8 number ++ low 8 (unwrap_or t.header_time 0xFFFFFFFF)
    ++ (if counted then amounts t else [])

-- a message of a definition, which is this one of the stream
abbrev pub message_block : {A : Type 0} → ℕ → ℕ → ℕ → Values A → MessageDef A → Told → List ℕ
message_block file place number v d t =
    sized (message_head file place number v.local v.offset (counts d) t ++ flat_map slot v.fields ++ flat_map slot v.dev)

-- a message after the records before it in its file, latest first
abbrev pub message_after : {A : Type 0} → List (Record A) → ℕ → ℕ → ℕ → Values A → List ℕ
message_after before file place number v =
    unwrap_or (option_map (λ p. message_block file place number v p.definition (told before v)) (defined_at (known before) v.local)) []

-- ---- events, the latest first

-- how many files have begun
abbrev pub begun_files : {A : Type 0} → List (Event A) → ℕ
begun_files [] = 0
begun_files (header h n ∷ heard) = begun_files heard + 1
begun_files (x ∷ heard) = begun_files heard

-- how many definitions have come
abbrev pub definitions_heard : {A : Type 0} → List (Event A) → ℕ
definitions_heard [] = 0
definitions_heard (item (Define d) ∷ heard) = definitions_heard heard + 1
definitions_heard (x ∷ heard) = definitions_heard heard

-- for each local message type, how many definitions had come before its own
abbrev pub numbers_heard : {A : Type 0} → List (Event A) → List ℕ
numbers_heard [] = replicate 16 0
numbers_heard (item (Define d) ∷ heard) = slice_set (numbers_heard heard) d.local (definitions_heard heard)
numbers_heard (x ∷ heard) = numbers_heard heard

-- how many bytes an event has after the events before it
abbrev pub event_length : {A : Type 0} → List (Event A) → Event A → ℕ
event_length heard (header h n) = h.size
event_length heard (item r) = length (record_bytes (known (latest_records heard)) r)
event_length heard file_end = 2

-- how many bytes all events have
abbrev pub bytes_heard : {A : Type 0} → List (Event A) → ℕ
bytes_heard [] = 0
bytes_heard (x ∷ heard) = bytes_heard heard + event_length heard x

-- The block of an event after those before it.
abbrev pub event_block : {A : Type 0} → Lines A
event_block heard (header h n) = header_block (begun_files heard + 1) (bytes_heard heard) h n
event_block heard (item (Define d)) =
    let before = latest_records heard in
    definition_block (begun_files heard) (bytes_heard heard) (definitions_heard heard) (defined_by (known before) d) (namings_at (Define d ∷ before) d.local)
event_block heard (item (Data v)) =
    message_after (latest_records heard) (begun_files heard) (bytes_heard heard) (slice_index_or (numbers_heard heard) v.local 0) v
event_block heard file_end = end_block (begun_files heard) (bytes_heard heard)
