-- Where a reader of records is: a part of a record has come, and what is left of the data section has room for the rest.
use Rattle.std.specs.Prelude.{◌≡◌, ℕ, ◌+◌, ◌<◌, ◌≤◌, ◌⊎◌, Bool, true, false, IsTrue, List, [], length, Option, None, Result, Ok, Err, IsOk, IsSomeAnd}
use Rattle.fit_record.specs.declared.message.Record.{Record}
use Rattle.fit_record.specs.Environment.{Environment}
use Rattle.fit_record.specs.Records.{Fits}
use Rattle.fit_record.specs.Sizes.{HeadsEmptyMessage}
use Rattle.fit_record.specs.HeaderByte.{is_definition}
use Rattle.fit_step.specs.declared.phase.DefinitionPhase.TheVariants.{FieldCode, DevIndex}
use Rattle.fit_step.specs.declared.phase.Phase.{Phase}
use Rattle.fit_step.specs.declared.phase.Phase.TheVariants.{RecordHeader, Definition, FieldItems, DevItems}
use Rattle.fit_step.specs.declared.position.Position.{Position}
use Rattle.fit_step.specs.declared.stop.Stop.{Stop}
use Rattle.fit_step.specs.declared.stop.Stop.TheVariants.{Refused, NoMemory}
use Rattle.fit_step.specs.Machine.{State, Step, least_rest}
use Rattle.fit_step.specs.Parts.{RecordPart, IsPart, state_of}

-- a position, and the record in progress
abbrev pub state_at : {A : Type 0} → Position → Option (Record A) → State A
state_at p in_progress = record { phase = p.phase; room = p.room; in_progress = in_progress; partial = p.partial }

-- The next byte is the first of a record.
pub record Begins (p : Position) : Type 0 where
  pub phase : p.phase ≡ RecordHeader
  pub partial : p.partial ≡ []

-- A part of a record has come, and its rest is within the room: for a definition as if the counts to come were 0.
pub record PartFitsRoom {A : Type 0} (e : Environment A) (s : State A) : Type 0 where
  pub part : RecordPart A
  pub is_part : IsPart e part
  pub is : s ≡ state_of s.room part
  pub within : least_rest e s ≤ s.room

-- The answer of a step, where `after` is the record in progress after it, is what the byte makes. With true that record is
-- whole. Where memory was refused the byte isn't one to be refused.
abbrev pub Steps : {A : Type 0} → Option (Record A) → Result (Position × Bool) Stop → Step A → Type 0
Steps after (Ok (p, true)) made = made ≡ Ok (state_at p None, after)
Steps after (Ok (p, false)) made = made ≡ Ok (state_at p after, None)
Steps after (Err (Refused reason)) made = made ≡ Err reason
Steps after (Err NoMemory) made = IsOk made

-- For these bytes no memory is wanted: the record header of a definition message, or of a data message without fields and
-- developer fields, the bytes of a definition message that end no entry, and those of a data message, after its record
-- header, that end no number.
abbrev pub TakesNone : {A : Type 0} → Environment A → Phase → List ℕ → ℕ → Type 0
TakesNone e RecordHeader partial b = IsTrue (is_definition b) ⊎ HeadsEmptyMessage e b
TakesNone e (Definition (FieldCode left number size)) partial b = ⊥
TakesNone e (Definition (DevIndex left number size)) partial b = ⊥
TakesNone e (Definition k) partial b = Unit {0}
TakesNone e (FieldItems place width left) partial b = length partial + 1 < width
TakesNone e (DevItems place width left) partial b = length partial + 1 < width

-- The answer isn't that memory was refused.
abbrev pub WantsNone : {X : Type 0} → Result X Stop → Type 0
WantsNone (Err NoMemory) = ⊥
WantsNone result = Unit {0}

-- A part of a record has come. With true it is all of a record that can stand where this is known, and the next one begins.
abbrev pub KeepsPart : {A : Type 0} → Environment A → Option (Record A) → Position × Bool → Type 0
KeepsPart e after (p, true) = IsSomeAnd after (Fits e) × Begins p
KeepsPart e after (p, false) = PartFitsRoom e (state_at p after)
