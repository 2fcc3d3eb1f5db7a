-- What blocks say by themselves, whatever came before them, and the first reason why one can't stand.
use Rattle.std.specs.Prelude.{◌%◌, ◌==◌, ◌&&◌, ◌++◌, Bool, ℕ, nat_lt, nat_le, not, if◌then◌else◌, List, length, map, take, drop, Option, Some, None}
use Rattle.std.specs.List.{list_all}
use Rattle.std.specs.Global.{Global}
use Rattle.fit_record.specs.declared.definition.MessageDef.{MessageDef}
use Rattle.fit_record.specs.declared.environment.Defined.{Defined}
use Rattle.fit_record.specs.declared.message.Values.{Values}
use Rattle.fit_record.specs.Faults.{or_else}
use Rattle.fit_record.specs.Records.{dev_layout, layout}
use Rattle.fit_from_messages.specs.declared.fault.BlockReason.{BlockReason}
use Rattle.fit_from_messages.specs.declared.fault.BlockReason.TheVariants as why
use Rattle.fit_from_messages.specs.declared.slot.Slot.{Slot}
use Rattle.fit_from_messages.specs.Parts.{byte_at, dev_entries, entries_stand, field_entries, header_stands, items_read, kind, number_read, offset_stands}
use Rattle.fit_from_messages.specs.Parts.{size_fits, slot_stands, slots_in}

-- It begins with its own length, which is at least 24 and a multiple of 8.
abbrev pub is_block : List ℕ → Bool
is_block block = nat_le 24 (length block) && (number_read 4 0 block == length block) && (length block % 8 == 0)

-- It is a block of this kind.
abbrev pub why_no_kind : ℕ → List ℕ → Option BlockReason
why_no_kind of_kind block =
    if not (is_block block) then Some why.Cut else
    if not (kind block == of_kind) then Some why.Kind else None

abbrev pub why_no_lone_header : List ℕ → Option BlockReason
why_no_lone_header block =
    or_else (why_no_kind 1 block) (if not (header_stands block) then Some why.Header else None)

-- the base type codes of developer fields
abbrev pub codes_in : List ℕ → List ℕ
codes_in block = map (byte_at 7) (dev_entries block)

-- Items are as wide as base types and sizes give, also of developer fields: the base type is the one that the block says.
abbrev pub lone_sizes_fit : List ℕ → Bool
lone_sizes_fit block =
    list_all (λ entry. size_fits (byte_at 7 entry) entry) (field_entries block)
    && list_all (λ entry. size_fits (byte_at 7 entry) entry) (dev_entries block)

-- of a definition, after its length and its kind
abbrev pub why_no_parts : List ℕ → Option BlockReason
why_no_parts block =
    if not (nat_lt (byte_at 5 block) 16) then Some why.Local else
    if not (nat_lt (byte_at 6 block) 2) then Some why.Architecture else
    if not (entries_stand block) then Some why.Entries else
    if not (lone_sizes_fit block) then Some why.Size else None

abbrev pub why_no_lone_definition : List ℕ → Option BlockReason
why_no_lone_definition block = or_else (why_no_kind 2 block) (why_no_parts block)

-- base type code and size of each field and developer field, by these codes of developer fields
abbrev pub lone_layout : MessageDef Global → List ℕ → List (ℕ × ℕ)
lone_layout d codes =
    let p : Defined Global = record { definition = d; dev_codes = codes } in layout p ++ dev_layout p

-- of a message, whatever its definition; its local message type isn't read
abbrev pub why_no_lone_front : List ℕ → Option BlockReason
why_no_lone_front block = or_else (why_no_kind 3 block) (if not (offset_stands block) then Some why.Offset else None)

-- of a message whose items are there
abbrev pub why_no_message_at : List ℕ → List Slot → Option BlockReason
why_no_message_at block slots = or_else (why_no_lone_front block) (if not (list_all (slot_stands block) slots) then Some why.Items else None)

-- of a message of this definition
abbrev pub why_no_lone_message : List ℕ → List ℕ → Option BlockReason
why_no_lone_message definition block = why_no_message_at block (slots_in definition)

-- the message with items that are there, of which that many are those of fields
abbrev pub message_with : List ℕ → List Slot → ℕ → ℕ → Option ℕ → Values Global
message_with block slots fields local offset = record {
  local = local;
  offset = offset;
  fields = map (items_read block) (take fields slots);
  dev = map (items_read block) (drop fields slots);
}
