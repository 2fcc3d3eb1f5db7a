-- A data message that is taken in by its bytes. No public contract names these.
use Rattle.std.specs.Prelude.{◌≡◌, ℕ, ◌<◌, ◌≤◌, List, length, take, Option}
use Rattle.fit_record.specs.declared.learn.Description.{Description}
use Rattle.fit_record.specs.declared.message.Values.{Values}
use Rattle.fit_record.specs.declared.message.Record.TheVariants.{Values as Data}
use Rattle.fit_record.specs.Environment.{Environment, described_by, learn}
use Rattle.fit_record.specs.Records.{IsRecord}

-- A data message of this size stands at the front of the bytes, and describes this.
abbrev pub StandsThere : {A : Type 0} → Environment A → List ℕ → ℕ → Option Description → Type 0
StandsThere {A} e bytes size description =
    (v : Values A) × (0 < size) × (size ≤ length bytes) × IsRecord e (Data v) (take size bytes) × (described_by e v ≡ description)

-- The bytes are those of a data message, with which what is known becomes `after`.
abbrev pub IsLearned : {A : Type 0} → Environment A → Environment A → List ℕ → Type 0
IsLearned {A} e after bytes = (v : Values A) × IsRecord e (Data v) bytes × (learn e (Data v) ≡ after)
