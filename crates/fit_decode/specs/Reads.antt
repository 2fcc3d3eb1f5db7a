-- What the readers answer. A reader takes bytes from a source. `Reads..` says what each answer means, whatever the source held:
-- which bytes were taken, and what they are. `Gives..` says which answer comes where the source's bytes begin with a file's, or
-- are a chain's.
use Rattle.std.specs.Prelude.{◌≡◌, ℕ, ◌+◌, ◌<◌, ◌≤◌, Bool, true, false, List, [], ◌∷◌, ◌++◌, Option, Some, None, Result, Ok, Err, Vec, min, take, length}
use Rattle.std.specs.Prelude.{slice_index}
use Rattle.std.specs.declared.alloc.Global.{Global}
use Rattle.std.specs.Io.KnownBytes.{Consumes, Keeps, IsAtEnd}
use Rattle.fit_record.specs.declared.file.FitFile.{FitFile}
use Rattle.fit_record.specs.Files.{IsFile, IsChain, IsViable, chain_limit}
use Rattle.fit_chain.specs.declared.event.Fault.{Fault}
use Rattle.fit_chain.specs.declared.event.Fault.TheVariants.{Refused, Truncated, NoMemory, Read}
use Rattle.fit_chain.specs.Checks.{AreChain}
use Rattle.fit_chain.specs.Events.{Event}
use Rattle.fit_chain.specs.Memory.{IsItem, IsItemOrEnd, MayLackMemory}
use Rattle.fit_chain.specs.Needs.{Needs}
use Rattle.fit_chain.specs.Refusals.{IsRefused}

-- A source or a sink over a call: the bytes that it has before and after it, where it tells them, and whether it has failed after it.
pub record Channel : Type 0 where
  pub before : Option (List ℕ)
  pub after : Option (List ℕ)
  pub failed : Bool

-- a source or a sink over a call, by what tells its bytes, what tells whether it has failed, and its states before and after
abbrev pub channel : {S : Type 0} → (S → Option (List ℕ)) → (S → Bool) → S → S → Channel
channel contents has_failed old new = record { before = contents old; after = contents new; failed = has_failed new }

-- Some file's bytes begin these.
abbrev pub BeginsWithFile : Type 0 → List ℕ → Type 0
BeginsWithFile A bytes = (f : FitFile A) × (b : List ℕ) × (rest : List ℕ) × IsFile f b × (bytes ≡ b ++ rest)

-- the most bytes that a reader takes at once: a piece
abbrev pub piece_size : ℕ
piece_size = 4096

-- After the first k bytes, which end before this place or at it, at most a piece was taken, and no more than is missing there until a
-- file ends.
abbrev pub IsInNeededPiece : Type 0 → List ℕ → ℕ → Type 0
IsInNeededPiece A taken place = (k : ℕ) × (k ≤ place) × (n : ℕ) × Needs A (take k taken) n × (length taken ≤ k + min n piece_size)

-- Memory was refused at a byte near the end of what was taken, and not before the place `start`: at one with which some files of at most
-- that many begin, and that may take memory or completes an event that is kept.
abbrev pub WantsMemory : (A : Type 0) → (Event A → Type 0) → ℕ → (List ℕ → ℕ → Type 0) → ℕ → List ℕ → Type 0
WantsMemory A IsKept limit IsNear start taken =
    (place : ℕ) × (start ≤ place) × IsNear taken place × MayLackMemory A IsKept limit taken place

-- Why the reading of at most that many files ended, after these bytes were taken. The byte at the place is the first one with
-- which no such files begin, and it is near the end of what was taken; or the input ended, and its bytes begin such files, but are none;
-- or memory was refused, of which `Wants` says where; or the source failed.
abbrev pub EndsReading : (A : Type 0) → ℕ → (List ℕ → Type 0) → (List ℕ → ℕ → Type 0) → (List ℕ → Type 0) → List ℕ → Channel → Fault → Type 0
EndsReading A limit IsDone IsNear Wants taken source (Refused place reason) =
    (place < length taken) × IsNear taken place × IsRefused A limit (take place taken) (slice_index taken place) reason × (source.failed ≡ false)
EndsReading A limit IsDone IsNear Wants taken source (Truncated place) =
    (place ≡ length taken) × IsAtEnd source.after × IsViable A limit taken × (IsDone taken → ⊥) × (source.failed ≡ false)
EndsReading A limit IsDone IsNear Wants taken source (NoMemory used) = (used ≡ length taken) × Wants taken × (source.failed ≡ false)
EndsReading A limit IsDone IsNear Wants taken source (Read place) = (place ≡ length taken) × (source.failed ≡ true) × IsViable A limit taken

-- ---- one file

-- The bytes taken are the file's, or the reading ended with a fault.
abbrev pub ReadsOne : {A : Type 0} → Channel → Result (FitFile A) Fault → Type 0
ReadsOne source (Ok f) = (taken : List ℕ) × Consumes source.before source.after taken × IsFile f taken × (source.failed ≡ false)
ReadsOne {A} source (Err fault) =
    (taken : List ℕ) × Consumes source.before source.after taken
    × EndsReading A 1 (BeginsWithFile A) (IsInNeededPiece A) (WantsMemory A IsItem 1 (IsInNeededPiece A) 0) taken source fault

-- The answer where the input begins with the bytes of this file, and x follows them. The file ends with the n-th byte; no byte
-- after it is taken.
abbrev pub GivesFile : {A : Type 0} → FitFile A → ℕ → List ℕ → Channel → Result (FitFile A) Fault → Type 0
GivesFile f n x source (Ok g) = (g ≡ f) × (source.after ≡ Some x)
GivesFile f n x source (Err (NoMemory used)) = used ≤ n
GivesFile f n x source (Err (Read place)) = (source.failed ≡ true) × (place < n)
GivesFile f n x source (Err (Refused place reason)) = ⊥
GivesFile f n x source (Err (Truncated place)) = ⊥

-- ---- a chain

-- The bytes taken are all, and are the chain's; or the reading ended with a fault.
abbrev pub ReadsChain : Channel → Result (Vec (FitFile Global) Global) Fault → Type 0
ReadsChain source (Ok files) =
    (taken : List ℕ) × Consumes source.before source.after taken × IsAtEnd source.after × IsChain chain_limit files.items taken × (source.failed ≡ false)
ReadsChain source (Err fault) =
    (taken : List ℕ) × Consumes source.before source.after taken
    × EndsReading Global chain_limit (AreChain Global) (IsInNeededPiece Global)
    (WantsMemory Global IsItemOrEnd chain_limit (IsInNeededPiece Global) 0) taken source fault

-- The answer where the input is the bytes of this chain.
abbrev pub GivesChain : List (FitFile Global) → Channel → Result (Vec (FitFile Global) Global) Fault → Type 0
GivesChain fs source (Ok files) = files.items ≡ fs
GivesChain fs source (Err (NoMemory used)) = Unit {0}
GivesChain fs source (Err (Read place)) = source.failed ≡ true
GivesChain fs source (Err (Refused place reason)) = ⊥
GivesChain fs source (Err (Truncated place)) = ⊥

-- ---- file by file

-- What a caller sees of a reading: its source, the bytes taken since it was made, and the fault if there was one.
pub record Past (S : Type 0) : Type 0 where
  pub source : S
  pub taken : List ℕ
  pub fault : Option Fault

-- The bytes are those of a chain with this file as its last.
abbrev pub EndsChain : {A : Type 0} → FitFile A → List ℕ → Type 0
EndsChain {A} f bytes = (fs : List (FitFile A)) × IsChain chain_limit (fs ++ f ∷ []) bytes

-- Bytes were taken after the old ones: the next file's, and with the old ones they are a chain; or none, since the input has ended
-- after a chain; or the reading ended with a fault, for good.
abbrev pub ReadsNext : {A S : Type 0} → Past S → Past S → Channel → Result (Option (FitFile A)) Fault → Type 0
ReadsNext old new source (Ok (Some f)) =
    (bytes : List ℕ) × Consumes source.before source.after bytes × (new.taken ≡ old.taken ++ bytes) × IsFile f bytes × EndsChain f new.taken
    × (new.fault ≡ None) × (source.failed ≡ false)
ReadsNext {A} old new source (Ok None) =
    Keeps source.before source.after × IsAtEnd source.after × (new.taken ≡ old.taken) × AreChain A old.taken × (new.fault ≡ None) × (source.failed ≡ false)
ReadsNext {A} old new source (Err fault) =
    (bytes : List ℕ) × Consumes source.before source.after bytes × (new.taken ≡ old.taken ++ bytes)
    × EndsReading A chain_limit (AreChain A) (IsInNeededPiece A)
    (WantsMemory A IsItem chain_limit (IsInNeededPiece A) (length old.taken)) new.taken source fault × (new.fault ≡ Some fault)

-- The answer where the bytes of this file begin what is left, and x follows them. The file ends with the n-th byte since the reading
-- was made; no byte after it is taken.
abbrev pub GivesNext : {A : Type 0} → FitFile A → ℕ → List ℕ → Channel → Result (Option (FitFile A)) Fault → Type 0
GivesNext f n x source (Ok (Some g)) = (g ≡ f) × (source.after ≡ Some x)
GivesNext f n x source (Ok None) = ⊥
GivesNext f n x source (Err (NoMemory used)) = used ≤ n
GivesNext f n x source (Err (Read place)) = (source.failed ≡ true) × (place < n)
GivesNext f n x source (Err (Refused place reason)) = ⊥
GivesNext f n x source (Err (Truncated place)) = ⊥
