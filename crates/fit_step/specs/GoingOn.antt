-- Whether what there is of a record can still become a record with others after it that fill the room.
-- No contract of another crate names these definitions.
use Rattle.std.specs.Prelude.{◌≡◌, ℕ, ◌+◌, ◌-◌, ◌*◌, Bool, true, false, List, ◌++◌, length, Option, Some, None}
use Rattle.fit_base.specs.Numbers.{IsBytes}
use Rattle.fit_record.specs.declared.message.Record.{Record}
use Rattle.fit_record.specs.Files.{CanFill}
use Rattle.fit_record.specs.declared.definition.DevDef.{DevDef}
use Rattle.fit_record.specs.declared.definition.MessageDef.{MessageDef}
use Rattle.fit_record.specs.Environment.{Environment, learn}
use Rattle.fit_record.specs.Records.{body_length, Fits, record_bytes}
use Rattle.fit_record.specs.Rooms.{can_fill}
use Rattle.fit_record.specs.Unfinished.{can_complete, can_complete_dev, can_complete_front}
use Rattle.fit_step.specs.declared.phase.DefinitionPhase.{DefinitionPhase}
use Rattle.fit_step.specs.declared.phase.DefinitionPhase.TheVariants.{Reserved, Architecture, GlobalFirst, GlobalSecond, FieldCount, FieldNumber, FieldSize}
use Rattle.fit_step.specs.declared.phase.DefinitionPhase.TheVariants.{FieldCode, DevCount, DevNumber, DevSize, DevIndex}
use Rattle.fit_step.specs.declared.phase.Phase.{Phase}
use Rattle.fit_step.specs.declared.phase.Phase.TheVariants.{RecordHeader, Definition, FieldItems, DevItems}
use Rattle.fit_step.specs.Machine.{State, definition_in_progress, least_rest}
use Rattle.fit_step.specs.Tests.{entries_complete}

abbrev pub has_dev : Option (List DevDef) → Bool
has_dev None = false
has_dev (Some _) = true

-- the room is what is left after the bytes that have come
abbrev pub definition_goes_on : {A : Type 0} → Environment A → DefinitionPhase → MessageDef A → ℕ → Bool
definition_goes_on e Reserved d room = can_complete_front (has_dev d.dev) 0 room
definition_goes_on e Architecture d room = can_complete_front (has_dev d.dev) 1 room
definition_goes_on e GlobalFirst d room = can_complete_front (has_dev d.dev) 2 room
definition_goes_on e (GlobalSecond first) d room = can_complete_front (has_dev d.dev) 3 room
definition_goes_on e FieldCount d room = can_complete_front (has_dev d.dev) 4 room
definition_goes_on e (FieldNumber left) d room = entries_complete e d.dev d.local (3 + 3 * (left - 1)) (body_length d) room
definition_goes_on e (FieldSize left number) d room = entries_complete e d.dev d.local (2 + 3 * (left - 1)) (body_length d) room
definition_goes_on e (FieldCode left number size) d room = entries_complete e d.dev d.local (1 + 3 * (left - 1)) (body_length d + size) room
definition_goes_on e DevCount d room = can_complete_dev e d.local 0 (body_length d) room
definition_goes_on e (DevNumber left) d room = can_complete e d.local (3 + 3 * (left - 1)) (body_length d) room
definition_goes_on e (DevSize left number) d room = can_complete e d.local (2 + 3 * (left - 1)) (body_length d) room
definition_goes_on e (DevIndex left number size) d room = can_complete e d.local (1 + 3 * (left - 1)) (body_length d + size) room

abbrev pub goes_on_at : {A : Type 0} → Environment A → Phase → State A → Bool
goes_on_at e RecordHeader s = can_fill e s.room
goes_on_at e (Definition k) s = definition_goes_on e k (definition_in_progress s.in_progress) s.room
goes_on_at e (FieldItems place width left) s = can_fill e (s.room - least_rest e s)
goes_on_at e (DevItems place width left) s = can_fill e (s.room - least_rest e s)

abbrev pub goes_on : {A : Type 0} → Environment A → State A → Bool
goes_on e s = goes_on_at e s.phase s

-- Some record begins with the bytes, and records after it fill what it leaves of the room.
pub record Continues {A : Type 0} (e : Environment A) (bytes : List ℕ) (room : ℕ) : Type 0 where
  pub whole : Record A
  pub rest : List ℕ
  pub left : ℕ
  pub fits : Fits e whole
  pub spelled : record_bytes e whole ≡ bytes ++ rest
  pub are_bytes : IsBytes rest
  pub filled : CanFill (learn e whole) left
  pub total : length rest + left ≡ room
