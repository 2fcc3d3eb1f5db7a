-- What the code finds once for the messages of a run. No public contract names these.
use Rattle.std.specs.Prelude.{◌≡◌, ◌+◌, ◌<◌, ℕ, max, List, [], ◌∷◌, IfSome}
use Rattle.std.specs.Global.{Global}
use Rattle.fit_record.specs.declared.environment.Defined.{Defined}
use Rattle.fit_record.specs.declared.message.Record.{Record}
use Rattle.fit_from_messages.specs.Slots.{slot_size}
use Rattle.fit_from_messages.specs.declared.slot.Slot.{Slot}
use Rattle.fit_writer.specs.Reading.{Form}
use Rattle.fit_writer.specs.Written.{SaysSame}
use Rattle.fit_writer.specs.declared.found.Found.{Found}

-- How long a block is at least in which these items are: up to where the last of them ends.
abbrev pub least_length : List Slot → ℕ
least_length [] = 0
least_length (s ∷ slots) = max (s.place + slot_size s) (least_length slots)

-- Messages of this local message type are read as this form. It is that of the block of the definition, where messages of that one are.
pub record IsOwnPlace (before : List (Record Global)) (f : Form) (local : ℕ) : Type 0 where
  pub few : local < 16
  pub same : (p : Defined Global) × SaysSame before local f p
  pub own : (p : Defined Global) → SaysSame before f.definition.local f p → local ≡ f.definition.local

-- What was found holds of messages of this form after these records.
pub record IsFoundOnce (before : List (Record Global)) (f : Form) (found : Found) : Type 0 where
  pub length : found.length ≡ least_length f.slots
  pub place : IfSome found.place (IsOwnPlace before f)
