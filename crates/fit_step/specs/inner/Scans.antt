-- What a byte makes of a record in progress, and of what is known.
use Rattle.std.specs.Prelude.{◌≡◌, ℕ, ◌<◌, Bool, true, false, Option, Some, None, Result, Ok, Err, IsOk}
use Rattle.fit_record.specs.declared.message.Record.{Record}
use Rattle.fit_record.specs.Environment.{Environment, learn}
use Rattle.fit_record.specs.Sizes.{HeadsEmptyMessage}
use Rattle.fit_step.specs.declared.stop.Stop.{Stop}
use Rattle.fit_step.specs.declared.stop.Stop.TheVariants.{Refused, NoMemory}
use Rattle.fit_step.specs.declared.phase.Phase.TheVariants.{RecordHeader}
use Rattle.fit_step.specs.Machine.{State, Step}
use Rattle.fit_step.specs.Places.{PartFitsRoom, state_at}
use Rattle.fit_step.specs.declared.position.Position.{Position}

-- Some bytes of a record have come, or none yet, and there is room for the next byte.
abbrev pub StandsWithRoom : {A : Type 0} → Environment A → State A → Type 0
StandsWithRoom e s = (0 < s.room) × PartFitsRoom e s

-- The byte isn't the record header of a data message without fields and developer fields.
abbrev pub HeadsNoEmptyMessage : {A : Type 0} → Environment A → State A → ℕ → Type 0
HeadsNoEmptyMessage e s b = s.phase ≡ RecordHeader → HeadsEmptyMessage e b → ⊥

-- What a byte made: the state after it, or after a whole record, which is learned. Where memory was refused the byte isn't
-- one to be refused, nor the record header of an empty message.
abbrev pub RecordByte : {A : Type 0} → Environment A → Environment A → State A → ℕ → Result (Option (Record A)) Stop → Step A → Type 0
RecordByte old new after b (Ok None) made = (new ≡ old) × (made ≡ Ok (after, None))
RecordByte old new after b (Ok (Some r)) made = (new ≡ learn old r) × (made ≡ Ok (after, Some r))
RecordByte old new after b (Err (Refused reason)) made = (new ≡ old) × (made ≡ Err reason)
RecordByte old new after b (Err NoMemory) made = (new ≡ old) × IsOk made × HeadsNoEmptyMessage old after b

-- The same where a whole record is left in its place, and it is told whether it is whole.
abbrev pub TakesByte : {A : Type 0} → Environment A → Environment A → Position → Option (Record A) → ℕ → Result Bool Stop → Step A → Type 0
TakesByte old new p in_progress b (Ok false) made = RecordByte old new (state_at p in_progress) b (Ok None) made
TakesByte {A = A} old new p in_progress b (Ok true) made =
    (r : Record A) × (in_progress ≡ Some r) × RecordByte old new (state_at p None) b (Ok (Some r)) made
TakesByte old new p in_progress b (Err stop) made = RecordByte old new (state_at p in_progress) b (Err stop) made
