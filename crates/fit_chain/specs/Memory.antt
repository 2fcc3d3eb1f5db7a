-- Which bytes take no memory, and where it may be refused.
use Rattle.std.specs.Prelude.{◌≡◌, ℕ, ◌+◌, ◌<◌, ◌≤◌, ◌⊎◌, List, [], ◌∷◌, ◌++◌, length, take, slice_index}
use Rattle.fit_record.specs.declared.file.FitFile.{FitFile}
use Rattle.fit_record.specs.Environment.{empty_environment, learn_all}
use Rattle.fit_record.specs.Records.{records_bytes}
use Rattle.fit_record.specs.Sizes.{HeadsEmptyMessage}
use Rattle.fit_record.specs.Files.{chain_limit, IsViable}
use Rattle.fit_chain.specs.Events.{Event, header, item, file_end, AreEvents}
use Rattle.fit_chain.specs.Progress.{Progress, at_header, at_data, HasCome}

-- A byte of a header, of a closing checksum, or of a data message without fields and developer fields.
abbrev pub TakesNoMemory : {A : Type 0} → Progress A → ℕ → Type 0
TakesNoMemory (at_header front) b = Unit {0}
TakesNoMemory (at_data h n records part) b =
    (length (records_bytes empty_environment records) ≡ n)
    ⊎ ((part ≡ []) × HeadsEmptyMessage (learn_all empty_environment records) b)

-- The byte after these isn't one that takes no memory.
pub record MayTakeMemory (A : Type 0) (bytes : List ℕ) (b : ℕ) : Type 0 where
  pub files : List (FitFile A)
  pub progress : Progress A
  pub come : HasCome files progress bytes
  pub takes : TakesNoMemory progress b → ⊥

-- ---- where memory may be refused

-- The events for which the receiver of events may take memory. A reader of one file keeps records, and nothing else.
abbrev pub IsItem : {A : Type 0} → Event A → Type 0
IsItem (header h n) = ⊥
IsItem (item r) = Unit {0}
IsItem file_end = ⊥

-- A reader of all files keeps a file at its end too.
abbrev pub IsItemOrEnd : {A : Type 0} → Event A → Type 0
IsItemOrEnd (header h n) = ⊥
IsItemOrEnd (item r) = Unit {0}
IsItemOrEnd file_end = Unit {0}

-- A reporter may take memory for any.
abbrev pub IsAny : {A : Type 0} → Event A → Type 0
IsAny event = Unit {0}

-- The byte at this place completes an event of these.
abbrev pub CompletesEvent : (A : Type 0) → (Event A → Type 0) → List ℕ → ℕ → Type 0
CompletesEvent A IsKept bytes place = (events : List (Event A)) × (event : Event A) × IsKept event × AreEvents (take place bytes) events
    × AreEvents (take (place + 1) bytes) (events ++ event ∷ [])

-- Memory may be refused at the byte at this place. It isn't refused itself: with it some files of at most that many begin. And it may
-- take memory, or it completes an event for which the receiver may take some.
pub record MayLackMemory (A : Type 0) (IsKept : Event A → Type 0) (limit : ℕ) (bytes : List ℕ) (place : ℕ) : Type 0 where
  pub within : place < length bytes
  pub viable : IsViable A limit (take (place + 1) bytes)
  pub takes : MayTakeMemory A (take place bytes) (slice_index bytes place) ⊎ CompletesEvent A IsKept bytes place

-- the same of some byte of a piece that comes after these bytes of a chain
abbrev pub MayLackMemoryIn : (A : Type 0) → (Event A → Type 0) → List ℕ → List ℕ → Type 0
MayLackMemoryIn A IsKept bytes piece = (place : ℕ) × (length bytes ≤ place) × MayLackMemory A IsKept chain_limit (bytes ++ piece) place
