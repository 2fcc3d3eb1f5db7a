-- What a writer of messages has written, what each call adds, and why it refuses.
use Rattle.std.specs.Prelude.{◌≡◌, ◌⊎◌, ◌+◌, ◌<◌, ◌≤◌, ◌^◌, ℕ, is_none, if◌then◌else◌, List, [], ◌∷◌, ◌++◌, length, reverse}
use Rattle.std.specs.Prelude.{Option, Some, None, IsSomeAnd}
use Rattle.std.specs.Global.{Global}
use Rattle.fit_frame.specs.declared.header.Header.{Header}
use Rattle.fit_frame.specs.declared.header.HeaderSum.TheVariants.{True}
use Rattle.fit_frame.specs.Header.{ZeroIsSum}
use Rattle.fit_record.specs.declared.definition.MessageDef.{MessageDef}
use Rattle.fit_record.specs.declared.environment.Defined.{Defined}
use Rattle.fit_record.specs.declared.file.FitFile.{FitFile}
use Rattle.fit_record.specs.declared.message.Record.{Record}
use Rattle.fit_record.specs.declared.message.Record.TheVariants.{Define, Values as Data}
use Rattle.fit_record.specs.declared.message.Values.{Values}
use Rattle.fit_record.specs.Environment.{empty_environment}
use Rattle.fit_record.specs.Files.{chain_limit}
use Rattle.fit_record.specs.Records.{Fits, records_bytes}
use Rattle.fit_profile.specs.Looks.{known}
use Rattle.fit_profile.specs.Times.{header_time, previous_time}
use Rattle.fit_from_messages.specs.Alone.{why_no_lone_definition, why_no_lone_header, why_no_lone_message}
use Rattle.fit_from_messages.specs.Parts.{definition_in, offset_in}
use Rattle.fit_writer.specs.Describing.{CanBeDescribed, DescribesForm, DescribesSome, IsOfDescriptions, dev_fields}
pub use Rattle.fit_writer.specs.Placed.{AreDescribed, IsDescribed, IsPlaced, SaysSame, WouldSaySame, with_definition, with_local}
use Rattle.fit_writer.specs.Reading.{Form, dated, form_in, header_time_in, fields_time, reading_after, said_reading}
use Rattle.fit_writer.specs.declared.refusal.Refusal.{Refusal}
use Rattle.fit_writer.specs.declared.refusal.Refusal.TheVariants.{NoFile, TooManyFiles, Block, Message, Described, Full, Time, TooLong, NoMemory}

-- ---- what has been written

-- a file that has begun and not ended: its header, and its records, the latest first
pub record Current : Type 0 where
  pub header : Header
  pub records : List (Record Global)

-- whole files, and the one that has begun
pub record Writing : Type 0 where
  pub files : List (FitFile Global)
  pub current : Option Current

abbrev pub nothing_written : Writing
nothing_written = record { files = []; current = None }

-- how many files there are, with the one that has begun
abbrev pub file_count : Writing → ℕ
file_count w = length w.files + (if is_none w.current then 0 else 1)

-- how many bytes the data has
abbrev pub data_length : List (Record Global) → ℕ
data_length records = length (records_bytes empty_environment (reverse records))

-- The header that a file gets when it ends: zeros don't stand for a sum that is 0, which has these bytes itself.
abbrev pub IsLastHeader : ℕ → Header → Header → Type 0
IsLastHeader n given last = ((ZeroIsSum given n → ⊥) × (last ≡ given)) ⊎ (ZeroIsSum given n × (last ≡ record given { sum = True }))

-- The file that had begun is whole.
abbrev pub IsEnded : Writing → List (FitFile Global) → Type 0
IsEnded w files = (w.current ≡ None → files ≡ w.files)
    × ((f : Current) → w.current ≡ Some f → (last : Header) × IsLastHeader (data_length f.records) f.header last
    × (files ≡ w.files ++ record { header = last; records = reverse f.records } ∷ []))

-- The file that had begun has ended, and nothing else has changed.
abbrev pub EndsFile : Writing → Writing → Type 0
EndsFile old new = IsEnded old new.files × (new.current ≡ None)

-- A file has begun after the others.
abbrev pub BeginsFile : Writing → Writing → Header → Type 0
BeginsFile old new header = IsEnded old new.files × (new.current ≡ Some (record { header = header; records = [] }))

-- the same with these records of the file that has begun
abbrev pub with_records : Writing → Current → List (Record Global) → Writing
with_records w f records = record w { current = Some (record f { records = records }) }

-- The definition message was put.
abbrev pub PutsDefinition : Writing → Writing → MessageDef Global → Type 0
PutsDefinition old new d = IsSomeAnd old.current (λ f. new ≡ with_records old f (Define d ∷ f.records))

-- ---- what a put adds

-- The block has a time offset, and it says the same time here.
pub record KeepsOffset (before : List (Record Global)) (block : List ℕ) : Type 0 where
  pub offset : ℕ
  pub is : offset_in block ≡ Some offset
  pub same : header_time (previous_time before) (Some offset) ≡ header_time_in block

-- The message has no time but that of its header, which its offset doesn't say here.
pub record NeedsTimestamp (before : List (Record Global)) (f : Form) (block : List ℕ) (t : ℕ) : Type 0 where
  pub lost : KeepsOffset before block → ⊥
  pub told : header_time_in block ≡ Some t
  pub alone : fields_time f block ≡ None

-- The form that the message needs: its own, or with a timestamp. There is none where there are 255 fields, or the time is the number that
-- stands for none.
abbrev pub IsNeeded : List (Record Global) → Form → List ℕ → Form → Type 0
IsNeeded before f block needed =
    (((t : ℕ) → NeedsTimestamp before f block t → ⊥) × (needed ≡ f))
    ⊎ ((t : ℕ) × NeedsTimestamp before f block t × (length f.definition.fields < 255) × (t < 0xFFFFFFFF) × (needed ≡ dated f))

-- the local message types that the record header of the message can name: 4 with a time offset
abbrev pub CanName : List (Record Global) → List ℕ → ℕ → Type 0
CanName before block local = (local < 16) × (KeepsOffset before block → local < 4)

-- No local message type that the header can name says the same as this form, nor would a definition message that came now.
abbrev pub NeedsDescriptions : List (Record Global) → Form → (ℕ → Type 0) → Type 0
NeedsDescriptions before form names =
    (WouldSaySame before form → ⊥) × ((local : ℕ) (p : Defined Global) → names local → SaysSame before local form p → ⊥)

-- Before a message of this form its developer fields are described, where that is needed.
abbrev pub DescribesBefore : List (Record Global) → List (Record Global) → Form → (ℕ → Type 0) → Type 0
DescribesBefore before described form names =
    (described ≡ before) ⊎ (NeedsDescriptions before form names × DescribesForm before described form)

-- A message was put after these records, in the form that it needs, its developer fields described before it where that is needed: it can be
-- next there, and a reader is told what a block of that form says. Its time offset is kept where that says the same time here; else it has
-- none.
pub record IsPut (before after : List (Record Global)) (f : Form) (block : List ℕ) : Type 0 where
  pub form : Form
  pub needed : IsNeeded before f block form
  pub described : List (Record Global)
  pub describes : DescribesBefore before described form (CanName before block)
  pub defined : Option (MessageDef Global)
  pub message : Values Global
  pub records : after ≡ Data message ∷ with_definition defined described
  pub fits : Fits (known (with_definition defined described)) (Data message)
  pub told : reading_after (with_definition defined described) message ≡ Some (said_reading form block)
  pub kept : KeepsOffset before block → message.offset ≡ offset_in block
  pub without : (KeepsOffset before block → ⊥) → message.offset ≡ None
  pub placed : IsPlaced described form (CanName before block) defined message.local

abbrev pub PutsMessage : Writing → Writing → Form → List ℕ → Type 0
PutsMessage old new form block =
    IsSomeAnd old.current (λ f. (after : List (Record Global)) × IsPut f.records after form block × (new ≡ with_records old f after))

-- Just this definition message was put, for some local message type.
abbrev pub PutsDefining : List (Record Global) → List (Record Global) → MessageDef Global → Type 0
PutsDefining before after d = (local : ℕ) × (after ≡ Define (with_local d local) ∷ before)

-- Of what describes this form, where that is needed, the first messages were put.
abbrev pub DescribesPart : List (Record Global) → List (Record Global) → Form → (ℕ → Type 0) → Type 0
DescribesPart before after form names = NeedsDescriptions before form names × DescribesSome before after (dev_fields form)

-- Just the definition message was put, or the first of the messages that describe, and maybe the definition message of the next.
abbrev pub DefinesPart : List (Record Global) → List (Record Global) → Form → (ℕ → Type 0) → Type 0
DefinesPart before after form names =
    PutsDefining before after form.definition
    ⊎ ((described : List (Record Global)) × DescribesPart before described form names
    × ((after ≡ described) ⊎ PutsDefining described after form.definition
    ⊎ ((d : MessageDef Global) × IsOfDescriptions d × (after ≡ Define d ∷ described))))

-- the same of the form that a message needs
abbrev pub PutsPart : List (Record Global) → List (Record Global) → Form → List ℕ → Type 0
PutsPart before after f block = (needed : Form) × IsNeeded before f block needed × DescribesPart before after needed (CanName before block)

abbrev pub PutsHalf : List (Record Global) → List (Record Global) → Form → List ℕ → Type 0
PutsHalf before after f block = (needed : Form) × IsNeeded before f block needed × DefinesPart before after needed (CanName before block)

-- After a refusal nothing has changed; but where memory was refused, the definition message that the message needs may have been put; and where
-- its developer fields are to be described and there is no more room or memory, the first of the messages that describe them.
abbrev pub KeepsAll : Writing → Writing → Form → List ℕ → Refusal → Type 0
KeepsAll old new form block NoMemory =
    (new ≡ old) ⊎ IsSomeAnd old.current (λ f. (after : List (Record Global)) × PutsHalf f.records after form block × (new ≡ with_records old f after))
KeepsAll old new form block TooLong =
    (new ≡ old) ⊎ IsSomeAnd old.current (λ f. (after : List (Record Global)) × PutsPart f.records after form block × (new ≡ with_records old f after))
KeepsAll old new form block _ = new ≡ old

-- ---- why a call is refused

-- A header's block can't begin a file.
abbrev pub IsHeaderRefusal : Writing → List ℕ → Refusal → Type 0
IsHeaderRefusal w block (Block reason) = why_no_lone_header block ≡ Some reason
IsHeaderRefusal w block TooManyFiles = (why_no_lone_header block ≡ None) × (chain_limit ≤ file_count w)
IsHeaderRefusal w block NoMemory = Unit {0}
IsHeaderRefusal w block _ = ⊥

-- After a definition message the data would be too long.
abbrev pub IsDefinitionRefusal : Option Current → List ℕ → Refusal → Type 0
IsDefinitionRefusal None block NoFile = Unit {0}
IsDefinitionRefusal None block _ = ⊥
IsDefinitionRefusal (Some f) block (Block reason) = why_no_lone_definition block ≡ Some reason
IsDefinitionRefusal (Some f) block TooLong =
    (why_no_lone_definition block ≡ None) × (2 ^ 32 ≤ data_length (Define (definition_in block) ∷ f.records))
IsDefinitionRefusal (Some f) block NoMemory = Unit {0}
IsDefinitionRefusal (Some f) block _ = ⊥

-- The blocks stand, but the message can't come after these records: a timestamp is needed where there are 255 fields or the time is the
-- number that stands for none; its developer fields aren't described so, and can't be; or the data would be too long, with the message or with
-- those that describe its developer fields.
abbrev pub IsPlaceRefusal : List (Record Global) → Form → List ℕ → Refusal → Type 0
IsPlaceRefusal before f block Full = (t : ℕ) × NeedsTimestamp before f block t × (length f.definition.fields ≡ 255)
IsPlaceRefusal before f block Time = NeedsTimestamp before f block 0xFFFFFFFF × (length f.definition.fields < 255)
IsPlaceRefusal before f block Described =
    (needed : Form) × IsNeeded before f block needed × NeedsDescriptions before needed (CanName before block) × (CanBeDescribed before needed → ⊥)
IsPlaceRefusal before f block TooLong =
    (after : List (Record Global)) × (IsPut before after f block ⊎ PutsPart before after f block) × (2 ^ 32 ≤ data_length after)
IsPlaceRefusal before f block _ = ⊥

abbrev pub IsMessageRefusal : Option Current → List ℕ → List ℕ → Refusal → Type 0
IsMessageRefusal None definition block NoFile = Unit {0}
IsMessageRefusal None definition block _ = ⊥
IsMessageRefusal (Some f) definition block (Block reason) = why_no_lone_definition definition ≡ Some reason
IsMessageRefusal (Some f) definition block (Message reason) =
    (why_no_lone_definition definition ≡ None) × (why_no_lone_message definition block ≡ Some reason)
IsMessageRefusal (Some f) definition block NoMemory = Unit {0}
IsMessageRefusal (Some f) definition block reason =
    (why_no_lone_definition definition ≡ None) × (why_no_lone_message definition block ≡ None)
    × IsPlaceRefusal f.records (form_in definition) block reason
