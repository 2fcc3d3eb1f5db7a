-- Records that are skipped.
use Rattle.std.specs.Prelude.{◌≡◌, ◌⊎◌, ℕ, ◌+◌, ◌-◌, ◌*◌, ◌==◌, if◌then◌else◌, false, List, [], ◌∷◌, ◌++◌, ◌<◌, ◌≤◌, take, length, slice_index}
use Rattle.std.specs.Prelude.{Option, None, IfSome}
use Rattle.std.specs.Option.{option_map_or}
use Rattle.fit_record.specs.declared.definition.MessageDef.{MessageDef}
use Rattle.fit_record.specs.declared.message.Values.{Values}
use Rattle.fit_record.specs.declared.message.Record.{Record}
use Rattle.fit_record.specs.declared.message.Record.TheVariants.{Define, Values as Data}
use Rattle.fit_record.specs.Environment.{Environment, defined_at, definition_at, learn, learn_all}
use Rattle.fit_record.specs.HeaderByte.{has_reserved_bit, is_definition, local_type}
use Rattle.fit_record.specs.Records.{AreRecords, IsRecord, message_size}
use Rattle.fit_step.specs.declared.position.Position.{Position}
use Rattle.fit_step.specs.InProgress.{IsInProgress}

-- The bytes are those of the records, and with them what is known becomes `after`.
abbrev pub Learns : {A : Type 0} → Environment A → Environment A → List ℕ → List (Record A) → Type 0
Learns e after bytes records = AreRecords e records bytes × (learn_all e records ≡ after)

-- Nothing was skipped; or no byte of a record had come, the bytes used are those of the records, and at least six bytes of the room are
-- to come after them.
abbrev pub SkipsRecords : {A : Type 0} → Environment A → Environment A → ℕ → List ℕ → Position → Position → Option (Record A) → List ℕ → ℕ → List (Record A)
    → Type 0
SkipsRecords old new room bytes before after in_progress piece used records =
    ((used ≡ 0) × (records ≡ []) × (new ≡ old) × (after ≡ before))
    ⊎ ((bytes ≡ []) × (used + 6 ≤ room) × Learns old new (take used piece) records × IsInProgress new (room - used) [] after in_progress)

-- the same, whatever has come
abbrev pub SkipsInSection : {A : Type 0} → Environment A → Position → Option (Record A) → Environment A → Position → List ℕ → ℕ → List (Record A) → Type 0
SkipsInSection old before in_progress new after piece used records =
    (room : ℕ) (bytes : List ℕ) → IsInProgress old room bytes before in_progress → SkipsRecords old new room bytes before after in_progress piece used records

-- The bytes that had come and those taken are those of the records, and then some of a record in progress, or none. Where there are records,
-- at least six bytes of the room are to come after them.
abbrev pub PassesRecords : {A : Type 0} → Environment A → Environment A → ℕ → List ℕ → Position → Option (Record A) → List ℕ → List (Record A) → Type 0
PassesRecords old new room bytes after in_progress taken records =
    (whole : List ℕ) × (part : List ℕ) × (bytes ++ taken ≡ whole ++ part) × ((records ≡ []) ⊎ (length whole + 6 ≤ room))
    × Learns old new whole records × IsInProgress new (room - length whole) part after in_progress

-- the same, whatever has come
abbrev pub PassesInSection : {A : Type 0} → Environment A → Position → Option (Record A) → Environment A → Position → Option (Record A) → List ℕ
    → List (Record A) → Type 0
PassesInSection old before idle new after in_progress taken records =
    (room : ℕ) (bytes : List ℕ) → IsInProgress old room bytes before idle → PassesRecords old new room bytes after in_progress taken records

-- A data message of this size stands at the front of the bytes, and is no field description.
abbrev pub HasMessage : {A : Type 0} → Environment A → List ℕ → ℕ → Type 0
HasMessage {A} e bytes size =
    (v : Values A) × (size ≤ length bytes) × IsRecord e (Data v) (take size bytes) × IfSome (definition_at e v.local) (λ d. d.global ≡ 206 → ⊥)

-- A definition message of this size without developer fields stands at the front of the bytes.
abbrev pub HasDefinition : {A : Type 0} → Environment A → List ℕ → ℕ → Type 0
HasDefinition {A} e bytes size = (d : MessageDef A) × (size ≤ length bytes) × IsRecord e (Define d) (take size bytes) × (d.dev ≡ None)

-- ---- for private functions

-- how many bytes a data message of this local message type has; 0 where it may describe a developer field, or isn't defined
abbrev pub size_to_skip : {A : Type 0} → Environment A → ℕ → ℕ
size_to_skip e local = option_map_or (λ p. if p.definition.global == 206 then 0 else 1 + message_size p) (defined_at e local) 0

-- by the record header of a data message, the same, or 0 where it isn't known; 0 by any other byte
abbrev pub AreSizes : {A : Type 0} → Environment A → List ℕ → Type 0
AreSizes e sizes =
    (b : ℕ) → b < 256 → 0 < slice_index sizes b
    → (has_reserved_bit b ≡ false) × (is_definition b ≡ false) × (slice_index sizes b ≡ size_to_skip e (local_type b))

-- Where it isn't known by the first of the record headers of a local message type that have a time offset, it isn't known by any of them.
abbrev pub AreTogether : List ℕ → Type 0
AreTogether sizes =
    (local : ℕ) → local < 4 → slice_index sizes (128 + 32 * local) ≡ 0
    → (b : ℕ) → 128 + 32 * local ≤ b → b < 128 + 32 * local + 32 → slice_index sizes b ≡ 0

-- both
abbrev pub AreSizesToSkip : {A : Type 0} → Environment A → List ℕ → Type 0
AreSizesToSkip e sizes = AreSizes e sizes × AreTogether sizes

-- By each record header of a data message of this local message type it is this, or 0, and elsewhere it is as it was, or 0.
abbrev pub HasSizeOf : ℕ → ℕ → List ℕ → List ℕ → Type 0
HasSizeOf local size old new =
    (b : ℕ) → b < 256
    → ((has_reserved_bit b ≡ false) × (is_definition b ≡ false) × (local_type b ≡ local) × (slice_index new b ≡ size))
    ⊎ ((slice_index new b ≡ slice_index old b) × (has_reserved_bit b ≡ false → is_definition b ≡ false → local_type b ≡ local → ⊥))
    ⊎ (slice_index new b ≡ 0)

-- The bytes are those of one record, with which what is known becomes `after`.
abbrev pub IsSkipped : {A : Type 0} → Environment A → Environment A → List ℕ → Type 0
IsSkipped {A} e after bytes = (r : Record A) × IsRecord e r bytes × (learn e r ≡ after)

-- They are those of that many records.
abbrev pub AreSkipped : {A : Type 0} → Environment A → Environment A → List ℕ → ℕ → Type 0
AreSkipped {A} e after bytes count = (records : List (Record A)) × Learns e after bytes records × (length records ≡ count)

-- The first byte heads a data message of this local message type.
abbrev pub HeadsMessage : List ℕ → ℕ → Type 0
HeadsMessage bytes local =
    (b : ℕ) × (rest : List ℕ) × (bytes ≡ b ∷ rest) × (has_reserved_bit b ≡ false) × (is_definition b ≡ false) × (local ≡ local_type b)
