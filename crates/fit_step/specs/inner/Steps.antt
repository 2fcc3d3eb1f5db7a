-- What the code's steps say, in terms of the machine. No public contract names these.
use Rattle.std.specs.Prelude.{◌≡◌, ℕ, suc, ◌<◌, ◌==◌, ◌⊎◌, if◌then◌else◌, Bool, true, false, List, [], ◌∷◌, length, Option, Some, None, Result, Ok, Err, IsOk}
use Rattle.std.specs.Prelude.{IsSome}
use Rattle.fit_record.specs.declared.definition.MessageDef.{MessageDef}
use Rattle.fit_record.specs.declared.message.Record.{Record}
use Rattle.fit_record.specs.declared.message.Record.TheVariants.{Define, Values as Data}
use Rattle.fit_record.specs.declared.message.Values.{Values}
use Rattle.fit_record.specs.declared.environment.Defined.{Defined}
use Rattle.fit_record.specs.Environment.{Environment, defined_at}
use Rattle.fit_record.specs.Records.{DefinitionFits, dev_layout}
use Rattle.fit_step.specs.declared.phase.Phase.{Phase}
use Rattle.fit_step.specs.declared.phase.Phase.TheVariants.{Definition, FieldItems, DevItems}
use Rattle.fit_step.specs.declared.phase.DefinitionPhase.{DefinitionPhase}
use Rattle.fit_step.specs.declared.phase.DefinitionPhase.TheVariants.{FieldNumber, FieldSize, FieldCode, DevCount, DevNumber, DevSize, DevIndex}
use Rattle.fit_base.specs.BaseTypes.{item_width}
use Rattle.fit_step.specs.declared.stop.Stop.{Stop}
use Rattle.fit_step.specs.declared.stop.Stop.TheVariants.{Refused, NoMemory}
use Rattle.fit_step.specs.Machine.{State, Step, NextState}

abbrev pub state : {A : Type 0} → Phase → ℕ → Option (Record A) → List ℕ → State A
state phase room in_progress partial = record { phase = phase; room = room; in_progress = in_progress; partial = partial }

-- What a step of the code left is what the byte makes, and the answer says whether the record in progress is whole. Where
-- memory was refused the byte isn't one to be refused.
abbrev pub Made : {A : Type 0} → Phase → ℕ → Option (Record A) → List ℕ → Result Bool Stop → Step A → Type 0
Made phase room in_progress partial (Ok true) made = made ≡ Ok (state phase room None partial, in_progress)
Made phase room in_progress partial (Ok false) made = made ≡ Ok (state phase room in_progress partial, None)
Made phase room in_progress partial (Err (Refused reason)) made = made ≡ Err reason
Made phase room in_progress partial (Err NoMemory) made = IsOk made

-- What there is of a record is all of it, or stays in progress.
abbrev pub entered : {A : Type 0} → Bool → Phase → ℕ → Record A → NextState A
entered true phase room r = (state phase room None [], Some r)
entered false phase room r = (state phase room (Some r) [], None)

-- the same of the byte with which a record begins
abbrev pub Enters : {A : Type 0} → Phase → ℕ → Result (Record A × Bool) Stop → Step A → Type 0
Enters phase room (Ok (r, whole)) made = made ≡ Ok (entered whole phase room r)
Enters phase room (Err (Refused reason)) made = made ≡ Err reason
Enters phase room (Err NoMemory) made = IsOk made

-- the same inside a definition message
abbrev pub Defines : {A : Type 0} → Phase → ℕ → MessageDef A → Result Bool Stop → Step A → Type 0
Defines phase room d (Ok true) made = made ≡ Ok (state phase room None [], Some (Define d))
Defines phase room d (Ok false) made = made ≡ Ok (state phase room (Some (Define d)) [], None)
Defines phase room d (Err (Refused reason)) made = made ≡ Err reason
Defines phase room d (Err NoMemory) made = IsOk made

-- entries are to come where the phase says so, and developer fields are read only where there are any
abbrev pub IsDefining : {A : Type 0} → DefinitionPhase → MessageDef A → Type 0
IsDefining (FieldNumber left) d = DefinitionFits d × (0 < left)
IsDefining (FieldSize left number) d = DefinitionFits d × (0 < left)
IsDefining (FieldCode left number size) d = DefinitionFits d × (0 < left)
IsDefining DevCount d = DefinitionFits d × IsSome d.dev
IsDefining (DevNumber left) d = DefinitionFits d × (0 < left) × IsSome d.dev
IsDefining (DevSize left number) d = DefinitionFits d × (0 < left) × IsSome d.dev
IsDefining (DevIndex left number size) d = DefinitionFits d × (0 < left) × IsSome d.dev
IsDefining k d = DefinitionFits d

-- ---- data messages

-- the first field that has bytes, from this place on: its place, the width of its items, and its size
abbrev pub next_with_bytes : ℕ → List (ℕ × ℕ) → Option (ℕ × ℕ × ℕ)
next_with_bytes place [] = None
next_with_bytes place (f ∷ rest) = if f.1 == 0 then next_with_bytes (suc place) rest else Some (place, item_width f.0 f.1, f.1)

-- after a field: the message is whole, or the next field begins
abbrev pub message_begun : {A : Type 0} → Bool → Phase → ℕ → Values A → NextState A
message_begun true phase room v = (state phase room None [], Some (Data v))
message_begun false phase room v = (state phase room (Some (Data v)) [], None)

-- A field of that many is read, some bytes of a number have come, and some of the field are to come.
pub record IsInField (count at each rest : ℕ) (partial : List ℕ) : Type 0 where
  pub place : at < count
  pub width : (each ≡ 1) ⊎ ((each ≡ 2) ⊎ ((each ≡ 4) ⊎ (each ≡ 8)))
  pub short : length partial < each
  pub some : 0 < rest

-- ---- where a record is in progress

abbrev pub DefinesAt : {A : Type 0} → Phase → MessageDef A → Type 0
DefinesAt (Definition k) d = IsDefining k d
DefinesAt phase d = ⊥

-- A field, or a developer field, of the definition of its local message type is read, and the message has as many as that.
abbrev pub ReadsAt : {A : Type 0} → Environment A → Phase → Values A → List ℕ → Type 0
ReadsAt {A} e (FieldItems place width left) v partial =
    (p : Defined A) × (defined_at e v.local ≡ Some p) × IsInField (length p.definition.fields) place width left partial
    × (length v.fields ≡ length p.definition.fields)
ReadsAt {A} e (DevItems place width left) v partial =
    (p : Defined A) × (defined_at e v.local ≡ Some p) × IsInField (length (dev_layout p)) place width left partial × (length v.dev ≡ length (dev_layout p))
ReadsAt e phase v partial = ⊥
