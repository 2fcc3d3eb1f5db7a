-- What one byte after another makes of records and of the room that is left for them, where an environment is known.
-- The room is the number of bytes of the data section that are to come after the bytes that have come.
use Rattle.std.specs.Prelude.{◌≡◌, ◌↔◌, IsTrue, true, ℕ, ◌+◌, ◌-◌, ◌<◌, ◌≤◌, List, [], ◌∷◌, ◌++◌, length, Some, None, Ok, Err}
use Rattle.fit_base.specs.Numbers.{IsBytes}
use Rattle.fit_frame.specs.declared.reason.Reason.{Reason}
use Rattle.fit_record.specs.declared.message.Record.{Record}
use Rattle.fit_record.specs.Environment.{Environment, learn}
use Rattle.fit_record.specs.Files.{CanFill}
use Rattle.fit_record.specs.Records.{IsRecord}
use Rattle.fit_step.specs.declared.position.Position.{Position}
use Rattle.fit_step.specs.GoingOn.{goes_on, Continues}
use Rattle.fit_step.specs.Machine.{State, start, step, least_rest, Ends}
use Rattle.fit_step.specs.Parts.{RecordPart, nothing, part_bytes, IsPart, state_of}
use Rattle.fit_step.specs.Places.{state_at, Begins, PartFitsRoom}
use Rattle.fit_step.specs.Reasons.{record_reason}
use Rattle.fit_step.specs.Tests.{tests_of}

-- The parts can become a record, and it and others can fill the room. Where nothing has come no record at all may do.
abbrev pub CanBecomeRecord : {A : Type 0} → Environment A → RecordPart A → ℕ → Type 0
CanBecomeRecord e nothing room = CanFill e room
CanBecomeRecord e part room = Continues e (part_bytes e part) room

-- Whether parts of a record can go on is what the test of their state says.
abbrev pub PartsAreTested : Type 0 → Type 0
PartsAreTested A = (e : Environment A) (part : RecordPart A) (room : ℕ) → length e.places ≡ 16
    → IsPart e part → IsBytes (part_bytes e part) → least_rest e (state_of room part) ≤ room
    → IsTrue (goes_on e (state_of room part)) ↔ CanBecomeRecord e part room

-- A record within the room, after which records can fill what is left, ends with its last byte and not before.
abbrev pub RecordsEnd : Type 0 → Type 0
RecordsEnd A = (e : Environment A) (r : Record A) (bytes : List ℕ) (left : ℕ) → length e.places ≡ 16
    → IsRecord e r bytes → IsBytes bytes → CanFill (learn e r) left
    → Ends e (tests_of e) (start (length bytes + left)) bytes (start left) r

-- A byte that isn't refused makes more parts of a record, which can go on if those before it could,
abbrev pub TakenBytesGoOn : Type 0 → Type 0
TakenBytesGoOn A = (e : Environment A) (part : RecordPart A) (room b : ℕ) (t : State A) → length e.places ≡ 16
    → IsPart e part → b < 256 → least_rest e (state_of room part) ≤ room → goes_on e (state_of room part) ≡ true
    → step e (tests_of e) (state_of room part) b ≡ Ok (t, None)
    → (next : RecordPart A) × IsPart e next × (part_bytes e next ≡ part_bytes e part ++ b ∷ [])
    × (t ≡ state_of (room - 1) next) × (least_rest e t ≤ room - 1) × (goes_on e t ≡ true)

-- or a whole record, after which records can fill the room that is left.
abbrev pub TakenBytesEnd : Type 0 → Type 0
TakenBytesEnd A = (e : Environment A) (part : RecordPart A) (room b : ℕ) (t : State A) (r : Record A) → length e.places ≡ 16
    → IsPart e part → b < 256 → least_rest e (state_of room part) ≤ room → goes_on e (state_of room part) ≡ true
    → step e (tests_of e) (state_of room part) b ≡ Ok (t, Some r)
    → IsRecord e r (part_bytes e part ++ b ∷ []) × (t ≡ start (room - 1)) × CanFill (learn e r) (room - 1)

-- A byte that is refused has the reason of its place, and no record begins with it so that the room can be filled.
abbrev pub RefusedBytesEndAll : Type 0 → Type 0
RefusedBytesEndAll A = (e : Environment A) (part : RecordPart A) (room b : ℕ) (reason : Reason) → length e.places ≡ 16
    → IsPart e part → 0 < room → b < 256 → step e (tests_of e) (state_of room part) b ≡ Err reason
    → (record_reason e (part_bytes e part) room b ≡ Some reason) × (Continues e (part_bytes e part ++ b ∷ []) (room - 1) → ⊥)

-- A reader stands where a record begins, whatever is known there,
abbrev pub BeginningsStand : Type 0 → Type 0
BeginningsStand A = (e : Environment A) (p : Position) → Begins p → PartFitsRoom e (state_at p None)

-- and where it stood before a byte that isn't refused.
abbrev pub TakenBytesStand : Type 0 → Type 0
TakenBytesStand A = (e : Environment A) (s t : State A) (b : ℕ) → b < 256 → PartFitsRoom e s
    → step e (tests_of e) s b ≡ Ok (t, None) → PartFitsRoom e t
