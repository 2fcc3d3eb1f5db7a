-- In which form a message is put. No public contract names these.
use Rattle.std.specs.Prelude.{◌≡◌, ◌⊎◌, ◌<◌, ◌≤◌, ◌^◌, ℕ, Bool, false, is_some, if◌then◌else◌, List, ◌∷◌, length, Option, Some, None, IfSome}
use Rattle.std.specs.Global.{Global}
use Rattle.fit_record.specs.declared.definition.MessageDef.{MessageDef}
use Rattle.fit_record.specs.declared.environment.Defined.{Defined}
use Rattle.fit_record.specs.declared.message.Record.{Record}
use Rattle.fit_record.specs.declared.message.Record.TheVariants.{Values as Data}
use Rattle.fit_record.specs.declared.message.Values.{Values}
use Rattle.fit_record.specs.Faults.{or_else}
use Rattle.fit_record.specs.Records.{Fits}
use Rattle.fit_profile.specs.Looks.{known}
use Rattle.fit_profile.specs.Times.{header_time, previous_time}
use Rattle.fit_writer.specs.Reading.{Form, Reading, dated, header_time_in, fields_time, reading_after, reading_by, values_by}
use Rattle.fit_writer.specs.Describing.{CanBeDescribed}
use Rattle.fit_writer.specs.Written.{DefinesPart, DescribesBefore, DescribesPart, IsPlaceRefusal, IsPlaced, IsPut, KeepsOffset, NeedsDescriptions}
use Rattle.fit_writer.specs.Written.{PutsHalf, PutsPart, SaysSame}
use Rattle.fit_writer.specs.Written.{WouldSaySame, data_length}
use Rattle.fit_writer.specs.Written.{with_definition}
use Rattle.fit_from_messages.specs.Parts.{offset_in}
use Rattle.fit_from_messages.specs.declared.fault.BlockReason.{BlockReason}
use Rattle.fit_writer.specs.declared.file.OpenFile.{OpenFile}
use Rattle.fit_writer.specs.declared.refusal.Refusal.{Refusal}
use Rattle.fit_writer.specs.declared.refusal.Refusal.TheVariants.{Described, Full, Message, NoMemory, Time, TooLong}
use Rattle.fit_writer.specs.inner.OpenFiles.{current_of, current_with}

-- the message has no time but that of its header, which isn't kept
pub record LosesTime (f : Form) (block : List ℕ) (is_kept : Bool) (t : ℕ) : Type 0 where
  pub lost : is_kept ≡ false
  pub told : header_time_in block ≡ Some t
  pub alone : fields_time f block ≡ None

-- the form that it is put in
abbrev pub IsChosen : Form → List ℕ → Bool → Form → Type 0
IsChosen f block is_kept chosen =
    (((t : ℕ) → LosesTime f block is_kept t → ⊥) × (chosen ≡ f))
    ⊎ ((t : ℕ) × LosesTime f block is_kept t × (length f.definition.fields < 255) × (t < 0xFFFFFFFF) × (chosen ≡ dated f))

abbrev pub IsUnchosen : Form → List ℕ → Bool → Refusal → Type 0
IsUnchosen f block is_kept Full = (t : ℕ) × LosesTime f block is_kept t × (length f.definition.fields ≡ 255)
IsUnchosen f block is_kept Time = LosesTime f block is_kept 0xFFFFFFFF × (length f.definition.fields < 255)
IsUnchosen f block is_kept NoMemory = Unit {0}
IsUnchosen f block is_kept _ = ⊥

-- what a reader is told of a message of this form with this time offset after these records
abbrev pub told_after : List (Record Global) → Form → List ℕ → Option ℕ → Reading
told_after before f block offset =
    reading_by f.definition f.codes f.namings (values_by f block 0 None) (or_else (fields_time f block) (header_time (previous_time before) offset))

-- A compressed record header has 4 local message types, a normal one 16.
abbrev pub limit_of : Option ℕ → ℕ
limit_of offset = if is_some offset then 4 else 16

-- The local message type of a message of this form below a limit, and its definition message, if need be.
abbrev pub IsSeated : List (Record Global) → Form → ℕ → Option (MessageDef Global) → ℕ → Type 0
IsSeated before f limit defined local = IsPlaced before f (λ k. k < limit) defined local

-- It was put, if need be with its definition message.
pub record IsTold (before : List (Record Global)) (f : Form) (block : List ℕ) (offset : Option ℕ) (after : List (Record Global)) : Type 0 where
  pub defined : Option (MessageDef Global)
  pub message : Values Global
  pub records : after ≡ Data message ∷ with_definition defined before
  pub fits : Fits (known (with_definition defined before)) (Data message)
  pub told : reading_after (with_definition defined before) message ≡ Some (told_after before f block offset)
  pub offset_is : message.offset ≡ offset
  pub seated : IsSeated before f (limit_of offset) defined message.local

abbrev pub IsUnplaced : List (Record Global) → Form → List ℕ → Option ℕ → Refusal → Type 0
IsUnplaced before f block offset Described =
    (WouldSaySame before f → ⊥) × ((local : ℕ) (p : Defined Global) → local < limit_of offset → SaysSame before local f p → ⊥)
IsUnplaced before f block offset TooLong = (after : List (Record Global)) × IsTold before f block offset after × (2 ^ 32 ≤ data_length after)
IsUnplaced before f block offset NoMemory = Unit {0}
IsUnplaced before f block offset _ = ⊥

-- It was put, its developer fields described before it where that is needed.
pub record IsToldAfter (before : List (Record Global)) (f : Form) (block : List ℕ) (offset : Option ℕ) (after : List (Record Global)) : Type 0 where
  pub described : List (Record Global)
  pub describes : DescribesBefore before described f (λ k. k < limit_of offset)
  pub told : IsTold described f block offset after

abbrev pub IsUnneeded : List (Record Global) → Form → List ℕ → Option ℕ → Refusal → Type 0
IsUnneeded before f block offset Described = NeedsDescriptions before f (λ k. k < limit_of offset) × (CanBeDescribed before f → ⊥)
IsUnneeded before f block offset TooLong =
    (after : List (Record Global)) × (IsToldAfter before f block offset after ⊎ DescribesPart before after f (λ k. k < limit_of offset))
    × (2 ^ 32 ≤ data_length after)
IsUnneeded before f block offset NoMemory = Unit {0}
IsUnneeded before f block offset _ = ⊥

-- ---- of a file

-- Nothing has changed; or of more records a part was put, where there was no more room, or no memory.
abbrev pub IsPartly : OpenFile → OpenFile → (List (Record Global) → Type 0) → (List (Record Global) → Type 0) → Refusal → Type 0
IsPartly old new part half TooLong = (current_of new ≡ current_of old) ⊎ ((after : List (Record Global)) × part after × (current_of new
    ≡ current_with old after))
IsPartly old new part half NoMemory = (current_of new ≡ current_of old) ⊎ ((after : List (Record Global)) × half after × (current_of new
    ≡ current_with old after))
IsPartly old new part half _ = current_of new ≡ current_of old

-- Of a message of this form nothing was put, or a part of what comes before it.
abbrev pub IsHalfNeeded : OpenFile → OpenFile → Form → ℕ → Refusal → Type 0
IsHalfNeeded old new f limit =
    IsPartly old new (λ after. DescribesPart old.stream after f (λ k. k < limit)) (λ after. DefinesPart old.stream after f (λ k. k < limit))

abbrev pub IsToldAfterIn : OpenFile → OpenFile → Form → List ℕ → Option ℕ → Type 0
IsToldAfterIn old new f block offset =
    (after : List (Record Global)) × IsToldAfter old.stream f block offset after × (current_of new ≡ current_with old after)

abbrev pub IsToldIn : OpenFile → OpenFile → Form → List ℕ → Option ℕ → Type 0
IsToldIn old new f block offset =
    (after : List (Record Global)) × IsTold old.stream f block offset after × (current_of new ≡ current_with old after)

-- the same of a message in the form that it needs
abbrev pub IsHalfPutInto : OpenFile → OpenFile → Form → List ℕ → Refusal → Type 0
IsHalfPutInto old new f block = IsPartly old new (λ after. PutsPart old.stream after f block) (λ after. PutsHalf old.stream after f block)

abbrev pub IsPutInto : OpenFile → OpenFile → Form → List ℕ → Type 0
IsPutInto old new f block = (after : List (Record Global)) × IsPut old.stream after f block × (current_of new ≡ current_with old after)

abbrev pub IsRefusedPut : List (Record Global) → Form → List ℕ → Option BlockReason → Refusal → Type 0
IsRefusedPut before f block first (Message reason) = first ≡ Some reason
IsRefusedPut before f block first NoMemory = Unit {0}
IsRefusedPut before f block first reason = (first ≡ None) × IsPlaceRefusal before f block reason

-- The offset is that of the block, and says the same time here; without one that can't be.
pub record IsKeptOffset (before : List (Record Global)) (block : List ℕ) (offset : Option ℕ) : Type 0 where
  pub is : IfSome offset (λ o. offset_in block ≡ Some o)
  pub same : IfSome offset (λ o. header_time (previous_time before) (Some o) ≡ header_time_in block)
  pub none : offset ≡ None → KeepsOffset before block → ⊥
