-- The developer data indices that the messages of a file say, as the code keeps them. No public contract names these.
use Rattle.std.specs.Prelude.{◌≡◌, ◌↔◌, ◌<◌, ◌==◌, ℕ, Bool, true, false, if◌then◌else◌, List, ◌∷◌, length, Option, Some, None}
use Rattle.std.specs.Prelude.{slice_index_or, slice_set}
use Rattle.std.specs.Global.{Global}
use Rattle.fit_record.specs.declared.definition.FieldDef.{FieldDef}
use Rattle.fit_record.specs.declared.message.Record.{Record}
use Rattle.fit_record.specs.Environment.{only}
use Rattle.fit_from_messages.specs.Parts.{items_read}
use Rattle.fit_from_messages.specs.declared.slot.Slot.{Slot}
use Rattle.fit_writer.specs.Describing.{HasIndex}

-- at each place whether a message says this index
abbrev pub AreIndices : List Bool → List (Record Global) → Type 0
AreIndices indices s = (length indices ≡ 256) × ((k : ℕ) → k < 256 → (slice_index_or indices k false ≡ true) ↔ HasIndex s k)

-- the same with one that is said, if one is
abbrev pub with_index : List Bool → Option ℕ → List Bool
with_index indices None = indices
with_index indices (Some k) = slice_set indices k true

-- the one byte that is in the place of a field
abbrev pub slot_byte : List ℕ → Slot → Option ℕ
slot_byte block s = if s.width == 1 then only (items_read block s).bits else None

-- that of the first field 3
abbrev pub third_byte : List ℕ → List FieldDef → List Slot → Option ℕ
third_byte block (f ∷ fields) (s ∷ slots) = if f.number == 3 then slot_byte block s else third_byte block fields slots
third_byte block _ _ = None
