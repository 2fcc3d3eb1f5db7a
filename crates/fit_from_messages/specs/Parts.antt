-- What is read of a block, at the places that `docs/BLOCKS.md` gives. All else in it may be anything.
use Rattle.std.specs.Prelude.{ℕ, zero, suc, ◌+◌, ◌-◌, ◌*◌, ◌^◌, ◌==◌, ◌&&◌, ◌||◌, Bool, if◌then◌else◌, nat_le, nat_lt, List, [], ◌∷◌}
use Rattle.std.specs.Prelude.{length, map, take, drop, sum_by, slice_index, Option, Some, None}
use Rattle.std.specs.List.{list_all}
use Rattle.std.specs.Global.{Global}
use Rattle.fit_base.specs.declared.items.Items.{Items}
use Rattle.fit_base.specs.declared.number.Order.{Order}
use Rattle.fit_base.specs.declared.number.Order.TheVariants.{Little, Big}
use Rattle.fit_base.specs.BaseTypes.{item_width}
use Rattle.fit_base.specs.Numbers.{number}
use Rattle.fit_frame.specs.declared.header.Header.{Header}
use Rattle.fit_frame.specs.declared.header.HeaderSum.{HeaderSum}
use Rattle.fit_frame.specs.declared.header.HeaderSum.TheVariants.{Absent, Zero, True}
use Rattle.fit_record.specs.declared.definition.FieldDef.{FieldDef}
use Rattle.fit_record.specs.declared.definition.DevDef.{DevDef}
use Rattle.fit_record.specs.declared.definition.MessageDef.{MessageDef}
use Rattle.fit_record.specs.Environment.{Environment, dev_code}
use Rattle.fit_record.specs.HeaderByte.{bit}
use Rattle.fit_record.specs.ReadMessages.{numbers_of}
use Rattle.fit_from_messages.specs.declared.slot.Slot.{Slot}
use Rattle.fit_messages.specs.Blocks.{whole}

-- the byte at a place
abbrev pub byte_at : ℕ → List ℕ → ℕ
byte_at place bytes = slice_index bytes place

-- the number of that many bytes at a place, the lowest first
abbrev pub number_read : ℕ → ℕ → List ℕ → ℕ
number_read width place bytes = number Little (take width (drop place bytes))

-- its kind: 1 header, 2 definition, 3 message, 4 end of a file
abbrev pub kind : List ℕ → ℕ
kind block = byte_at 4 block

-- ---- headers

-- twelve bytes without a checksum, or from 14 on with one, and then the block has those from place 14 on
abbrev pub size_stands : List ℕ → Bool
size_stands block =
    if byte_at 7 block == 0 then byte_at 5 block == 12
    else nat_lt (byte_at 7 block) 3 && nat_le 14 (byte_at 5 block) && nat_le (18 + byte_at 5 block) (length block)

-- It has those bytes, its major protocol version is 0, 1 or 2, and its profile version has two bytes.
abbrev pub header_stands : List ℕ → Bool
header_stands block =
    nat_le 32 (length block) && size_stands block && nat_lt (byte_at 6 block) 0x30 && nat_lt (number_read 8 24 block) (2 ^ 16)

-- what the checksum of a header is called in a block
abbrev pub sum_of_kind : ℕ → HeaderSum
sum_of_kind zero = Absent
sum_of_kind (suc zero) = Zero
sum_of_kind other = True

abbrev pub header_in : List ℕ → Header
header_in block = record {
  size = byte_at 5 block;
  protocol = byte_at 6 block;
  profile = number_read 8 24 block;
  sum = sum_of_kind (byte_at 7 block);
  rest = record { items = take (byte_at 5 block - 14) (drop 32 block) };
}

-- ---- definitions

-- how many fields, and how many developer fields
abbrev pub field_count : List ℕ → ℕ
field_count block = number_read 2 34 block

abbrev pub dev_field_count : List ℕ → ℕ
dev_field_count block = number_read 2 36 block

-- Its record header says that there are developer fields.
abbrev pub says_dev : List ℕ → Bool
says_dev block = bit 0 (byte_at 38 block)

-- how many bytes a text has before its first zero
abbrev pub text_length : List ℕ → ℕ
text_length [] = 0
text_length (b ∷ bytes) = if b == 0 then 0 else text_length bytes + 1

-- where the entries begin: after the name, its zero, and zeros up to a multiple of 8
abbrev pub entries_begin : List ℕ → ℕ
entries_begin block = 40 + whole (text_length (drop 40 block) + 1)

-- bytes cut into that many entries, each as long as it says
abbrev pub entries_of : ℕ → List ℕ → List (List ℕ)
entries_of zero bytes = []
entries_of (suc n) bytes = take (number_read 2 0 bytes) bytes ∷ entries_of n (drop (number_read 2 0 bytes) bytes)

abbrev pub block_entries : List ℕ → List (List ℕ)
block_entries block = entries_of (field_count block + dev_field_count block) (drop (entries_begin block) block)

-- those of the fields, and after them those of the developer fields
abbrev pub field_entries : List ℕ → List (List ℕ)
field_entries block = take (field_count block) (block_entries block)

abbrev pub dev_entries : List ℕ → List (List ℕ)
dev_entries block = drop (field_count block) (block_entries block)

-- an entry of a field, where `developer` is 0, or of a developer field, where it is 1
abbrev pub entry_stands : ℕ → List ℕ → Bool
entry_stands developer entry = nat_le 32 (length entry) && (length entry == number_read 2 0 entry) && (byte_at 5 entry == developer)

-- There are at most 255 of each, and no developer fields where the record header says that there are none.
abbrev pub counts_stand : List ℕ → Bool
counts_stand block = nat_lt (field_count block) 256 && nat_lt (dev_field_count block) 256 && (says_dev block || (dev_field_count block == 0))

-- That many entries stand where they begin, and nothing comes after them.
abbrev pub entries_stand : List ℕ → Bool
entries_stand block =
    nat_le (entries_begin block) (length block) && counts_stand block
    && list_all (entry_stands 0) (field_entries block) && list_all (entry_stands 1) (dev_entries block)
    && (entries_begin block + sum_by length (block_entries block) == length block)

-- the size of a field in bytes: the width of its items times their number
abbrev pub entry_size : List ℕ → ℕ
entry_size entry = byte_at 9 entry * byte_at 10 entry

abbrev pub field_in : List ℕ → FieldDef
field_in entry = record { number = byte_at 4 entry; size = entry_size entry; code = byte_at 7 entry }

abbrev pub dev_in : List ℕ → DevDef
dev_in entry = record { number = byte_at 4 entry; size = entry_size entry; index = byte_at 6 entry }

-- A size has a byte, and the items of a field of this base type code and size have that width.
abbrev pub size_fits : ℕ → List ℕ → Bool
size_fits code entry = nat_lt (entry_size entry) 256 && (item_width code (entry_size entry) == byte_at 9 entry)

-- those of a definition, by the codes of developer fields that are known
abbrev pub sizes_fit : Environment Global → List ℕ → Bool
sizes_fit known block =
    list_all (λ entry. size_fits (byte_at 7 entry) entry) (field_entries block)
    && list_all (λ entry. size_fits (dev_code known (dev_in entry)) entry) (dev_entries block)

abbrev pub order_read : List ℕ → Order
order_read block = if byte_at 6 block == 0 then Little else Big

abbrev pub definition_in : List ℕ → MessageDef Global
definition_in block = record {
  local = byte_at 5 block;
  reserved = byte_at 7 block;
  order = order_read block;
  global = number_read 2 32 block;
  fields = map field_in (field_entries block);
  dev = if says_dev block then Some (map dev_in (dev_entries block)) else None;
}

-- ---- messages

-- where the items of a field are in a message's block, how wide each is, and how many there are
abbrev pub slot_in : List ℕ → Slot
slot_in entry = record { place = number_read 4 12 entry; width = byte_at 9 entry; count = byte_at 10 entry }

-- of the fields, and then of the developer fields
abbrev pub slots_in : List ℕ → List Slot
slots_in block = map slot_in (block_entries block)

-- They lie in the block.
abbrev pub slot_stands : List ℕ → Slot → Bool
slot_stands block s = nat_le (s.place + s.width * s.count) (length block)

-- the items there, little endian
abbrev pub items_read : List ℕ → Slot → Items Global
items_read block s = record { width = s.width; bits = numbers_of Little s.width s.count (drop s.place block) }

-- the time offset of a compressed record header; 255 says that it is a normal one
abbrev pub offset_in : List ℕ → Option ℕ
offset_in block = if byte_at 7 block == 0xFF then None else Some (byte_at 7 block)

-- A normal record header has 16 local message types, a compressed one 4.
abbrev pub local_stands : List ℕ → Bool
local_stands block = nat_lt (byte_at 6 block) (if byte_at 7 block == 0xFF then 16 else 4)

abbrev pub offset_stands : List ℕ → Bool
offset_stands block = nat_lt (byte_at 7 block) 32 || (byte_at 7 block == 0xFF)
