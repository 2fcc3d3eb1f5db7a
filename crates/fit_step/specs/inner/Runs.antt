-- For proofs alone, what the machine of one record keeps: a record runs through, what isn't refused begins a record, and what is refused is so for its place.
use Rattle.std.specs.Prelude.{◌≡◌, ℕ, ◌+◌, ◌-◌, ◌≤◌, false, List, ◌∷◌, ◌++◌, length, replicate, Some, Err}
use Rattle.fit_base.specs.Numbers.{IsBytes}
use Rattle.fit_record.specs.declared.message.Record.{Record}
use Rattle.fit_frame.specs.declared.reason.Reason.TheVariants.{NoFit}
use Rattle.fit_record.specs.declared.environment.Defined.{Defined}
use Rattle.fit_step.specs.declared.phase.DefinitionPhase.TheVariants.{FieldSize, DevCount, DevSize}
use Rattle.fit_record.specs.Environment.{Environment, defined_at}
use Rattle.fit_record.specs.HeaderByte.{is_definition, local_type}
use Rattle.fit_record.specs.Records.{IsRecord}
use Rattle.fit_record.specs.Records.{message_size}
use Rattle.fit_step.specs.Machine.{Tests, start, step, Ends, RoomsFill}
use Rattle.fit_step.specs.Parts.{RecordPart, nothing, in_definition, part_bytes, IsPart, HasBegun, state_of}

-- A record within the room, which no test of rooms refuses, ends with its last byte and not before.
abbrev pub RecordsRunThrough : Type 0 → Type 0
RecordsRunThrough A = (e : Environment A) (tests : Tests A) (room : ℕ) (r : Record A) (bytes : List ℕ)
    → IsRecord e r bytes → IsBytes bytes → length bytes ≤ room → RoomsFill e tests (start room) bytes
    → Ends e tests (start room) bytes (start (room - length bytes)) r

-- Some zeros, one at least, make a record of the parts that have come.
abbrev pub CutsGoOn : Type 0 → Type 0
CutsGoOn A = (e : Environment A) (part : RecordPart A) → IsPart e part → HasBegun part
    → (r : Record A) × (k : ℕ) × IsRecord e r (part_bytes e part ++ 0 ∷ replicate k 0)

-- The test of rooms that is asked about b after these parts is false.
abbrev pub Fails : {A : Type 0} → Environment A → Tests A → ℕ → RecordPart A → ℕ → Type 0
Fails {A} e tests room nothing b =
    (is_definition b ≡ false) × (p : Defined A) × (defined_at e (local_type b) ≡ Some p) × (tests.message (room - (1 + message_size p)) ≡ false)
Fails e tests room (in_definition (FieldSize left number) d) b = tests.field_size d (left - 1) (room - 1) b ≡ false
Fails e tests room (in_definition DevCount d) b = tests.dev_count d (room - 1) b ≡ false
Fails e tests room (in_definition (DevSize left number) d) b = tests.dev_size d (left - 1) (room - 1) b ≡ false
Fails e tests room part b = ⊥

-- A byte refused for want of records after it is one of which such a test is false.
abbrev pub NoFitFails : Type 0 → Type 0
NoFitFails A = (e : Environment A) (tests : Tests A) (room : ℕ) (part : RecordPart A) (b : ℕ)
    → step e tests (state_of room part) b ≡ Err NoFit → Fails e tests room part b
