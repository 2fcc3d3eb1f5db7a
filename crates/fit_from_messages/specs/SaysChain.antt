-- Which chain of files blocks say, and why others say none. A block is read by what the blocks before it have said.
use Rattle.std.specs.Prelude.{◌≡◌, ℕ, ◌%◌, ◌<◌, ◌≤◌, ◌==◌, ◌&&◌, if◌then◌else◌, nat_lt, not, is_none, List, [], ◌∷◌, ◌++◌, length, map, flat_map, take, drop}
use Rattle.std.specs.Prelude.{replicate, slice_index_or, slice_set, Option, Some, None, option_map, unwrap_or}
use Rattle.std.specs.Global.{Global}
use Rattle.std.specs.List.{list_all}
use Rattle.fit_frame.specs.declared.header.Header.{Header}
use Rattle.fit_record.specs.declared.file.FitFile.{FitFile}
use Rattle.fit_record.specs.declared.message.Record.{Record}
use Rattle.fit_record.specs.declared.message.Record.TheVariants.{Define, Values as Data}
use Rattle.fit_record.specs.declared.message.Values.{Values}
use Rattle.fit_record.specs.Environment.{Environment, defined_at, empty_environment, learn_all}
use Rattle.fit_record.specs.Files.{chain_limit}
use Rattle.fit_from_messages.specs.declared.fault.BlockReason.{BlockReason}
use Rattle.fit_from_messages.specs.declared.fault.BlockReason.TheVariants.{Cut, Kind, Header as NoHeader, Local, Architecture, Entries, Size, Offset}
use Rattle.fit_from_messages.specs.declared.fault.BlockReason.TheVariants.{Undefined, Items as NoItems}
use Rattle.fit_from_messages.specs.Parts.{byte_at, definition_in, entries_stand, header_in, header_stands, items_read, kind, local_stands, number_read}
use Rattle.fit_from_messages.specs.declared.slot.Slot.{Slot}
use Rattle.fit_from_messages.specs.Parts.{offset_in, offset_stands, sizes_fit, slot_stands, slots_in}

-- ---- what has been said

-- a file of which some blocks have come: its header, its records, and for each local message type where the last definition says that
-- the items of its messages are
pub record Begun : Type 0 where
  pub header : Header
  pub records : List (Record Global)
  pub slots : List (List Slot)

-- whole files, and the one that has begun and not ended
pub record Said : Type 0 where
  pub files : List (FitFile Global)
  pub current : Option Begun

abbrev pub nothing_said : Said
nothing_said = record { files = []; current = None }

-- what the records of the file have defined and described
abbrev pub known_to : Begun → Environment Global
known_to f = learn_all empty_environment f.records

abbrev pub slots_at : Begun → ℕ → List Slot
slots_at f local = slice_index_or f.slots local []

-- ---- what a block says

abbrev pub begun_by : List ℕ → Begun
begun_by block = record { header = header_in block; records = []; slots = replicate 16 [] }

abbrev pub after_definition : Begun → List ℕ → Begun
after_definition f block = record f {
  records = f.records ++ Define (definition_in block) ∷ [];
  slots = slice_set f.slots (byte_at 5 block) (slots_in block);
}

-- how many fields a local message type has, without developer fields
abbrev pub fields_of : Begun → ℕ → ℕ
fields_of f local = unwrap_or (option_map (λ p. length p.definition.fields) (defined_at (known_to f) local)) 0

abbrev pub message_said : Begun → List ℕ → Values Global
message_said f block =
    let local = byte_at 6 block in
    record {
      local = local;
      offset = offset_in block;
      fields = map (items_read block) (take (fields_of f local) (slots_at f local));
      dev = map (items_read block) (drop (fields_of f local) (slots_at f local));
    }

abbrev pub after_message : Begun → List ℕ → Begun
after_message f block = record f { records = f.records ++ Data (message_said f block) ∷ [] }

abbrev pub after_end : List (FitFile Global) → Begun → Said
after_end files f = record { files = files ++ record { header = f.header; records = f.records } ∷ []; current = None }

abbrev pub after_in : List (FitFile Global) → Option Begun → List ℕ → Said
after_in files None block = record { files = files; current = Some (begun_by block) }
after_in files (Some f) block =
    if kind block == 2 then record { files = files; current = Some (after_definition f block) } else
    if kind block == 3 then record { files = files; current = Some (after_message f block) } else
    after_end files f

-- what has been said after a block that can stand there
abbrev pub after : Said → List ℕ → Said
after s block = after_in s.files s.current block

-- ---- why a block can't stand where it is: the first reason

abbrev pub why_no_header : ℕ → List ℕ → Option BlockReason
why_no_header files block =
    if not (kind block == 1 && nat_lt files chain_limit) then Some Kind else
    if not (header_stands block) then Some NoHeader else None

abbrev pub why_no_definition : Begun → List ℕ → Option BlockReason
why_no_definition f block =
    if not (nat_lt (byte_at 5 block) 16) then Some Local else
    if not (nat_lt (byte_at 6 block) 2) then Some Architecture else
    if not (entries_stand block) then Some Entries else
    if not (sizes_fit (known_to f) block) then Some Size else None

abbrev pub why_no_message : Begun → List ℕ → Option BlockReason
why_no_message f block =
    if not (local_stands block) then Some Local else
    if not (offset_stands block) then Some Offset else
    if is_none (defined_at (known_to f) (byte_at 6 block)) then Some Undefined else
    if not (list_all (slot_stands block) (slots_at f (byte_at 6 block))) then Some NoItems else None

-- after that many whole files, and in a file that has begun
abbrev pub reason_in : ℕ → Option Begun → List ℕ → Option BlockReason
reason_in files None block = why_no_header files block
reason_in files (Some f) block =
    if kind block == 2 then why_no_definition f block else
    if kind block == 3 then why_no_message f block else
    if kind block == 4 then None else Some Kind

abbrev pub reason : Said → List ℕ → Option BlockReason
reason s block = reason_in (length s.files) s.current block

-- ---- blocks one after another

-- It begins with its own length, which is at least 24 and a multiple of 8.
pub record IsBlock (block : List ℕ) : Type 0 where
  pub own_length : number_read 4 0 block ≡ length block
  pub front : 24 ≤ length block
  pub multiple : length block % 8 ≡ 0

-- the bytes of blocks, one after another
abbrev pub joined_blocks : List (List ℕ) → List ℕ
joined_blocks blocks = flat_map (λ block. block) blocks

-- Each block can stand where it is, and this has been said after them.
abbrev pub Say : Said → List (List ℕ) → Said → Type 0
Say before [] said = before ≡ said
Say before (block ∷ blocks) said = IsBlock block × (reason before block ≡ None) × Say (after before block) blocks said

-- The bytes are blocks that say just these files, one at least, each to its end.
pub record SaysChain (bytes : List ℕ) (files : List (FitFile Global)) : Type 0 where
  pub blocks : List (List ℕ)
  pub are_joined : bytes ≡ joined_blocks blocks
  pub say : Say nothing_said blocks (record { files = files; current = None })
  pub some : 0 < length files

-- After what has been said, these bytes begin with a block that can't stand there, for this reason; or with none.
abbrev pub CannotGoOn : Said → List ℕ → BlockReason → Type 0
CannotGoOn said rest Cut =
    ((block more : List ℕ) → rest ≡ block ++ more → IsBlock block → ⊥)
    × (rest ≡ [] → said.current ≡ None → 0 < length said.files → ⊥)
CannotGoOn said rest why = (block : List ℕ) × (more : List ℕ) × (rest ≡ block ++ more) × IsBlock block × (reason said block ≡ Some why)

-- The first block that can't stand where it is: how many come before it, and where it begins. At the end of the bytes it is the one
-- that is missing there.
pub record IsRefusedBlock (bytes : List ℕ) (count place : ℕ) (why : BlockReason) : Type 0 where
  pub blocks : List (List ℕ)
  pub rest : List ℕ
  pub said : Said
  pub are_joined : bytes ≡ joined_blocks blocks ++ rest
  pub say : Say nothing_said blocks said
  pub counted : count ≡ length blocks
  pub at : place ≡ length (joined_blocks blocks)
  pub wrong : CannotGoOn said rest why
