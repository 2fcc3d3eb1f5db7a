-- What has come of a record that isn't whole, and what more bytes make of it. The room is the number of bytes of the data section that
-- were to come before the record.
use Rattle.std.specs.Prelude.{◌≡◌, ◌↔◌, ◌⊎◌, ℕ, ◌+◌, ◌-◌, ◌^◌, ◌<◌, ◌≤◌, Bool, true, false, List, [], ◌∷◌, ◌++◌, take, length, slice_index}
use Rattle.std.specs.Prelude.{◌*◌, sum_by, Option, Some, None, Result, Ok, Err}
use Rattle.std.specs.Option.{option_map_or}
use Rattle.fit_base.specs.declared.items.Items.{Items}
use Rattle.fit_base.specs.Numbers.{IsBytes}
use Rattle.fit_frame.specs.declared.reason.Reason.{Reason}
use Rattle.fit_record.specs.declared.message.Record.{Record}
use Rattle.fit_record.specs.declared.message.Record.TheVariants.{Define, Values as Data}
use Rattle.fit_record.specs.declared.message.Values.{Values}
use Rattle.fit_record.specs.Environment.{Environment, defined_at, dev_defs, empty_environment, learn, learn_all}
use Rattle.fit_record.specs.Files.{CanFill}
use Rattle.fit_record.specs.HeaderByte.{has_reserved_bit, is_definition}
use Rattle.fit_record.specs.Records.{AllFit, Fits, IsRecord, dev_layout, layout, record_bytes, records_bytes}
use Rattle.fit_record.specs.Sizes.{HeadsEmptyMessage, entry_count, environment_size}
use Rattle.fit_step.specs.declared.phase.Phase.{Phase}
use Rattle.fit_step.specs.declared.phase.Phase.TheVariants.{RecordHeader}
use Rattle.fit_step.specs.declared.position.Position.{Position}
use Rattle.fit_step.specs.declared.stop.Stop.{Stop}
use Rattle.fit_step.specs.declared.stop.Stop.TheVariants.{Refused, NoMemory}
use Rattle.fit_step.specs.GoingOn.{goes_on}
use Rattle.fit_step.specs.Held.{held_of_record, items_so_far, part_size}
use Rattle.fit_step.specs.Machine.{State, least_rest, new_message}
use Rattle.fit_step.specs.Parts.{RecordPart, part_bytes, IsPart, state_of}
use Rattle.fit_step.specs.Places.{state_at, Begins}
use Rattle.fit_step.specs.Reasons.{record_reason}

-- No record's bytes begin these.
abbrev pub NoRecord : {A : Type 0} → Environment A → List ℕ → Type 0
NoRecord {A} e bytes = (r : Record A) (rest : List ℕ) → Fits e r → bytes ≡ record_bytes e r ++ rest → ⊥

-- Some records begin with these bytes and take up just the room.
abbrev pub FillFrom : {A : Type 0} → Environment A → ℕ → List ℕ → Type 0
FillFrom {A} e room bytes =
    (records : List (Record A)) × (rest : List ℕ) × IsBytes rest × AllFit e records
    × (records_bytes e records ≡ bytes ++ rest) × (length bytes + length rest ≡ room)

-- The bytes are parts of a record, or none; this is the state after them, and it can go on.
pub record StandsAfter {A : Type 0} (e : Environment A) (room : ℕ) (bytes : List ℕ) (s : State A) : Type 0 where
  pub sixteen : length e.places ≡ 16
  pub are_bytes : IsBytes bytes
  pub total : s.room + length bytes ≡ room
  pub part : RecordPart A
  pub is_part : IsPart e part
  pub spelled : part_bytes e part ≡ bytes
  pub is : s ≡ state_of s.room part
  pub rest : least_rest e s ≤ s.room
  pub goes : goes_on e s ≡ true

-- The bytes are the first of a data message, and are kept as they came: no field is made of them. Records that begin with them fill the room.
pub record IsKeptMessage {A : Type 0} (e : Environment A) (room : ℕ) (bytes : List ℕ) (p : Position) (in_progress : Option (Record A)) : Type 0 where
  pub sixteen : length e.places ≡ 16
  pub are_bytes : IsBytes bytes
  pub total : p.room + length bytes ≡ room
  pub limit : room < 2 ^ 32
  pub header : ℕ
  pub body : List ℕ
  pub begins : bytes ≡ header ∷ body
  pub clean : has_reserved_bit header ≡ false
  pub kind : is_definition header ≡ false
  pub phase : p.phase ≡ RecordHeader
  pub partial : p.partial ≡ bytes
  pub message : in_progress ≡ Some (Data (new_message header [] []))
  pub none : NoRecord e bytes
  pub fills : FillFrom e room bytes

-- These bytes have come of a record that isn't whole, or none have, and records that begin with them can fill the room. A caller hands
-- the position and the record in progress back as it got them; what follows for it is in the laws.
abbrev pub IsInProgress : {A : Type 0} → Environment A → ℕ → List ℕ → Position → Option (Record A) → Type 0
IsInProgress e room bytes p in_progress = StandsAfter e room bytes (state_at p in_progress) ⊎ IsKeptMessage e room bytes p in_progress

-- Some bytes of a record have come, or none, and the data section isn't over.
abbrev pub AwaitsByte : {A : Type 0} → Environment A → Position → Option (Record A) → Type 0
AwaitsByte e p in_progress = (room : ℕ) × (bytes : List ℕ) × (0 < room) × IsInProgress e room bytes p in_progress

-- What that many bytes of the piece make of a record of which these bytes had come. All of the piece was used, and more bytes are to
-- come; or the last byte used completes this record, which was learned, and the next one begins; or the byte after those used is refused
-- for this reason, since with it no records fill the room; or memory was refused at that byte: with it some records fill the room, and it
-- doesn't head a data message without fields and developer fields.
abbrev pub ReadsRecord : {A : Type 0} → Environment A → Environment A → ℕ → List ℕ → Position → Option (Record A) → List ℕ → ℕ
    → Result (Option (Record A)) Stop → Type 0
ReadsRecord old new room bytes p in_progress piece used (Ok None) =
    (used ≡ length piece) × (new ≡ old) × IsInProgress old room (bytes ++ take used piece) p in_progress
ReadsRecord old new room bytes p in_progress piece used (Ok (Some r)) =
    (0 < used) × (used ≤ length piece) × (new ≡ learn old r) × IsRecord old r (bytes ++ take used piece)
    × (length (bytes ++ take used piece) ≤ room) × IsInProgress new (room - length (bytes ++ take used piece)) [] p in_progress
ReadsRecord old new room bytes p in_progress piece used (Err (Refused reason)) =
    (used < length piece) × (new ≡ old) × IsInProgress old room (bytes ++ take used piece) p in_progress
    × (record_reason old (bytes ++ take used piece) (room - length (bytes ++ take used piece)) (slice_index piece used) ≡ Some reason)
    × (FillFrom old room ((bytes ++ take used piece) ++ slice_index piece used ∷ []) → ⊥)
ReadsRecord old new room bytes p in_progress piece used (Err NoMemory) =
    (used < length piece) × (new ≡ old) × IsInProgress old room (bytes ++ take used piece) p in_progress
    × FillFrom old room ((bytes ++ take used piece) ++ slice_index piece used ∷ [])
    × (bytes ++ take used piece ≡ [] → HeadsEmptyMessage old (slice_index piece used) → ⊥)

-- the same, whatever has come
abbrev pub Reads : {A : Type 0} → Environment A → Position → Option (Record A) → Environment A → Position → Option (Record A) → List ℕ → ℕ
    → Result (Option (Record A)) Stop → Type 0
Reads old before idle new after in_progress piece used answer =
    (room : ℕ) (bytes : List ℕ) → IsInProgress old room bytes before idle → ReadsRecord old new room bytes after in_progress piece used answer

-- The same where a complete record is left in its place, and it is told whether it is complete.
abbrev pub ReadsInPlace : {A : Type 0} → Environment A → Position → Option (Record A) → Environment A → Position → Option (Record A) → List ℕ → ℕ
    → Result Bool Stop → Type 0
ReadsInPlace old before idle new after in_progress piece used (Ok false) = Reads old before idle new after in_progress piece used (Ok None)
ReadsInPlace {A = A} old before idle new after in_progress piece used (Ok true) =
    (r : Record A) × (in_progress ≡ Some r) × Reads old before idle new after None piece used (Ok (Some r))
ReadsInPlace old before idle new after in_progress piece used (Err stop) = Reads old before idle new after in_progress piece used (Err stop)

-- ---- how much is kept

-- the items of fields
abbrev pub items_in : {A : Type 0} → List (Items A) → ℕ
items_in fields = sum_by (λ i. length i.bits) fields

-- the fields and developer fields of a data message, and their items
abbrev pub values_size : {A : Type 0} → Values A → ℕ
values_size v = length v.fields + length v.dev + items_in v.fields + items_in v.dev

-- Of a data message of which that many bytes are kept as they came, the fields and developer fields of its definition, and the items that are
-- whole in them.
abbrev pub kept_size : {A : Type 0} → Environment A → ℕ → ℕ → ℕ
kept_size e local count =
    option_map_or (λ p. entry_count p.definition + items_so_far (layout p ++ dev_layout p) (count - 1)) (defined_at e local) 0

-- of a data message in progress, where the next byte is this, and that many bytes are kept
abbrev pub message_held : {A : Type 0} → Environment A → Phase → ℕ → Values A → ℕ
message_held e RecordHeader count v = kept_size e v.local count
message_held e phase count v = values_size v

abbrev pub in_progress_size : {A : Type 0} → Environment A → Position → Option (Record A) → ℕ
in_progress_size e p None = 0
in_progress_size e p (Some (Define d)) = entry_count d
in_progress_size e p (Some (Data v)) = message_held e p.phase (length p.partial) v

-- so few that they can be counted
abbrev pub IsCountable : {A : Type 0} → Environment A → Position → Option (Record A) → Type 0
IsCountable e p None = Unit {0}
IsCountable e p (Some (Define d)) = (length d.fields < 256) × (length (dev_defs d.dev) < 256)
IsCountable e p (Some (Data v)) = message_held e p.phase (length p.partial) v ≤ 130560

-- ---- laws

-- A record begins where records can fill what is left of the data section.
abbrev pub RecordsBegin : Type 0 → Type 0
RecordsBegin A = (e : Environment A) (p : Position) → length e.places ≡ 16 → Begins p → CanFill e p.room → IsInProgress e p.room [] p None

-- What is in progress is no whole record, records that begin with it fill the room, and the position tells what is left of the room.
abbrev pub RecordsInProgress : Type 0 → Type 0
RecordsInProgress A = (e : Environment A) (room : ℕ) (bytes : List ℕ) (p : Position) (in_progress : Option (Record A))
    → IsInProgress e room bytes p in_progress → NoRecord e bytes × FillFrom e room bytes × (p.room + length bytes ≡ room)

-- Nothing is in progress just where no byte has come.
abbrev pub IdleIsBetweenRecords : Type 0 → Type 0
IdleIsBetweenRecords A = (e : Environment A) (room : ℕ) (bytes : List ℕ) (p : Position) (in_progress : Option (Record A))
    → IsInProgress e room bytes p in_progress → (in_progress ≡ None) ↔ (bytes ≡ [])

-- A byte with which no records fill the room, after bytes with which some do and which are no whole record, has a reason.
abbrev pub RefusedBytesHaveReasons : Type 0 → Type 0
RefusedBytesHaveReasons A = (e : Environment A) (room : ℕ) (bytes : List ℕ) (b : ℕ) → length e.places ≡ 16 → 0 < room → IsBytes bytes → b < 256
    → NoRecord e bytes → FillFrom e room bytes → (FillFrom e room (bytes ++ b ∷ []) → ⊥)
    → (reason : Reason) × (record_reason e bytes (room - length bytes) b ≡ Some reason)

-- What is kept of a record in progress, after records, is what is whole in its bytes, and no more than its bytes allow.
abbrev pub HeldIsOfBytes : Type 0 → Type 0
HeldIsOfBytes A = (records : List (Record A)) (room : ℕ) (bytes : List ℕ) (p : Position) (in_progress : Option (Record A))
    → AllFit empty_environment records → IsBytes (records_bytes empty_environment records)
    → IsInProgress (learn_all empty_environment records) room bytes p in_progress
    → IsCountable (learn_all empty_environment records) p in_progress
    × (in_progress_size (learn_all empty_environment records) p in_progress ≡ held_of_record (learn_all empty_environment records) bytes)
    × (in_progress_size (learn_all empty_environment records) p in_progress ≤ part_size (learn_all empty_environment records) bytes)

-- Records define and describe, and some bytes of a record allow, no more than the format has room for.
abbrev pub HeldIsLimited : Type 0 → Type 0
HeldIsLimited A = (records : List (Record A)) (bytes : List ℕ) → AllFit empty_environment records → IsBytes (records_bytes empty_environment records)
    → IsBytes bytes
    → (environment_size (learn_all empty_environment records) ≤ 16 * 510 + 65536) × (part_size (learn_all empty_environment records) bytes ≤ 130560)
