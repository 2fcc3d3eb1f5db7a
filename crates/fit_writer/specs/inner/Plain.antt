-- Messages of fields alone, as the code makes them. No public contract names these.
use Rattle.std.specs.Prelude.{◌≡◌, ◌≤◌, ◌<◌, ◌*◌, ◌⊎◌, ◌^◌, ℕ, true, List, ◌∷◌, length, map, zip}
use Rattle.std.specs.Global.{Global}
use Rattle.std.specs.List.{AllByRecursion, list_all}
use Rattle.fit_base.specs.declared.items.Items.{Items}
use Rattle.fit_record.specs.declared.definition.FieldDef.{FieldDef}
use Rattle.fit_record.specs.declared.definition.MessageDef.{MessageDef}
use Rattle.fit_record.specs.declared.message.Record.{Record}
use Rattle.fit_record.specs.declared.message.Record.TheVariants.{Define}
use Rattle.fit_from_messages.specs.Parts.{items_read, slot_stands}
use Rattle.fit_from_messages.specs.Slots.{SlotsFit}
use Rattle.fit_from_messages.specs.declared.slot.Slot.{Slot}
use Rattle.fit_writer.specs.Describing.{IsAdded}
use Rattle.fit_writer.specs.Reading.{Reading}
use Rattle.fit_writer.specs.Written.{data_length}
use Rattle.fit_writer.specs.declared.file.OpenFile.{OpenFile}
use Rattle.fit_writer.specs.declared.refusal.Refusal.{Refusal}
use Rattle.fit_writer.specs.declared.refusal.Refusal.TheVariants.{NoMemory, TooLong}
use Rattle.fit_writer.specs.inner.OpenFiles.{current_of, current_with}

-- each field with its items in the block
abbrev pub fields_made : List FieldDef → List Slot → List ℕ → List (FieldDef × Items Global)
fields_made fields slots block = zip fields (map (items_read block) slots)

-- Items are of one byte and lie in the block, and no field says a time.
pub record IsMade (fields : List FieldDef) (slots : List Slot) (block : List ℕ) : Type 0 where
  pub stand : list_all (slot_stands block) slots ≡ true
  pub fit : SlotsFit (map (λ f. (f.code, f.size)) fields) slots
  pub bytes : AllByRecursion (λ s. s.width ≡ 1) slots
  pub untimed : AllByRecursion (λ f. f.number < 253) fields
  pub short : length block ≤ 255 * length fields

-- ---- of a file

-- Of a message nothing was put, as the data would be too long; or as memory was refused, and then its definition message may have been.
abbrev pub IsUnadded : OpenFile → OpenFile → ℕ → Reading → Refusal → Type 0
IsUnadded old new local r TooLong =
    (current_of new ≡ current_of old) × ((after : List (Record Global)) × IsAdded old.stream after local r × (2 ^ 32 ≤ data_length after))
IsUnadded old new local r NoMemory =
    (current_of new ≡ current_of old)
    ⊎ ((d : MessageDef Global) × (d.global ≡ r.global) × (current_of new ≡ current_with old (Define d ∷ old.stream)))
IsUnadded old new local r _ = ⊥
