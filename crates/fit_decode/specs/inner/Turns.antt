-- What the parts of a reader do.
use Rattle.std.specs.Prelude.{◌≡◌, ℕ, ◌+◌, ◌<◌, ◌≤◌, min, Bool, true, false, List, ◌++◌, Option, Some, None, Result, Ok, Err, take, length, slice_index}
use Rattle.std.specs.Io.KnownBytes.{Consumes, IsAtEnd}
use Rattle.fit_frame.specs.declared.header.Header.{Header}
use Rattle.fit_record.specs.declared.file.FitFile.{FitFile}
use Rattle.fit_record.specs.declared.message.Record.{Record}
use Rattle.fit_record.specs.Files.{chain_limit, IsViable}
use Rattle.fit_chain.specs.declared.event.Fault.{Fault}
use Rattle.fit_chain.specs.declared.event.Fault.TheVariants.{Refused, Truncated, NoMemory, Read}
use Rattle.fit_chain.specs.Comes.{ComesToRecords, ComesTo, Ended, NoSooner}
use Rattle.fit_chain.specs.Memory.{IsItem, MayLackMemoryIn}
use Rattle.fit_chain.specs.Needs.{Needs}
use Rattle.fit_decode.specs.Answers.{Seen}
use Rattle.fit_decode.specs.Reads.{IsInNeededPiece, piece_size}
use Rattle.fit_chain.specs.Refusals.{IsRefused}

-- A decoder that was fed these bytes, none of which was refused.
abbrev pub unrefused : List ℕ → Seen
unrefused bytes = record { bytes = bytes; refusal = None }

-- What a piece fed after the bytes told: no end of a file; or the end of one, with that many of its bytes; or a fault.
abbrev pub PieceFed : {A : Type 0} → List (FitFile A) → List ℕ → List ℕ → Seen → Option Header → List (Record A) → Result Bool Fault → Type 0
PieceFed files bytes piece new head records (Ok false) = (new ≡ unrefused (bytes ++ piece)) × ComesToRecords files head records (bytes ++ piece)
PieceFed files bytes piece new head records (Ok true) =
    (k : ℕ) × (k ≤ length piece) × (new ≡ unrefused (bytes ++ take k piece))
    × (h : Header) × (head ≡ Some h) × Ended files (record { header = h; records = records }) (bytes ++ take k piece)
PieceFed {A} files bytes piece new head records (Err (Refused place reason)) =
    (k : ℕ) × (k < length piece) × (place ≡ length bytes + k) × ComesTo files (bytes ++ take k piece)
    × IsRefused A chain_limit (bytes ++ take k piece) (slice_index piece k) reason
PieceFed {A} files bytes piece new head records (Err (NoMemory used)) = (used ≡ length bytes + length piece) × MayLackMemoryIn A IsItem bytes piece
PieceFed files bytes piece new head records (Err fault) = ⊥

-- The last piece that was taken: after bytes with which some chain begins, no more than is missing there, and no further than the next
-- file goes. Memory was refused at one of its bytes.
pub record LastPiece {A : Type 0} (files : List (FitFile A)) (taken : List ℕ) : Type 0 where
  pub before : List ℕ
  pub piece : List ℕ
  pub parts : taken ≡ before ++ piece
  pub n : ℕ
  pub needs : Needs A before n
  pub short : length piece ≤ min n piece_size
  pub viable : IsViable A chain_limit before
  pub come : ComesTo files before
  pub within : NoSooner files before (length piece)
  pub lacks : MayLackMemoryIn A IsItem before piece

-- The fault that ended the reading of the file after these files, after all these bytes.
abbrev pub FaultIn : {A : Type 0} → List (FitFile A) → List ℕ → Option (List ℕ) → Bool → Seen → Fault → Type 0
FaultIn {A} files taken has failed new (Refused place reason) =
    (place < length taken) × IsInNeededPiece A taken place × ComesTo files (take place taken)
    × IsRefused A chain_limit (take place taken) (slice_index taken place) reason × (failed ≡ false)
FaultIn files taken has failed new (Truncated place) = (place ≡ length taken) × IsAtEnd has × ComesTo files taken × (new ≡ unrefused taken) × (failed ≡ false)
FaultIn files taken has failed new (NoMemory used) = (used ≡ length taken) × LastPiece files taken × (failed ≡ false)
FaultIn files taken has failed new (Read place) = (place ≡ length taken) × (failed ≡ true) × ComesTo files taken × (new ≡ unrefused taken)

-- What the taking and feeding of one piece, got, told.
abbrev pub TurnTold : {A : Type 0} → List (FitFile A) → List ℕ → List ℕ → Option (List ℕ) → Bool → Seen → Option Header → List (Record A) → Result Bool Fault
    → Type 0
TurnTold files bytes got has failed new head records (Ok false) =
    (0 < length got) × (new ≡ unrefused (bytes ++ got)) × ComesToRecords files head records (bytes ++ got)
TurnTold files bytes got has failed new head records (Ok true) =
    (new ≡ unrefused (bytes ++ got)) × (h : Header) × (head ≡ Some h) × Ended files (record { header = h; records = records }) (bytes ++ got)
    × (failed ≡ false)
TurnTold files bytes got has failed new head records (Err fault) = FaultIn files (bytes ++ got) has failed new fault

pub record Turned {A : Type 0} (files : List (FitFile A)) (bytes old taken : List ℕ) (had has : Option (List ℕ)) (failed : Bool) (new : Seen)
    (head : Option Header) (records : List (Record A)) (result : Result Bool Fault) : Type 0 where
  pub got : List ℕ
  pub noted : taken ≡ old ++ got
  pub eats : Consumes had has got
  pub told : TurnTold files bytes got has failed new head records result

-- What the reading of one file told.
abbrev pub FileTold : {A : Type 0} → List (FitFile A) → List ℕ → Option (List ℕ) → Bool → Seen → Result (FitFile A) Fault → Type 0
FileTold files taken has failed new (Ok f) = (new ≡ unrefused taken) × Ended files f taken × (failed ≡ false)
FileTold files taken has failed new (Err fault) = FaultIn files taken has failed new fault

pub record FileRead {A : Type 0} (files : List (FitFile A)) (bytes old taken : List ℕ) (had has : Option (List ℕ)) (failed : Bool) (new : Seen)
    (result : Result (FitFile A) Fault) : Type 0 where
  pub got : List ℕ
  pub noted : taken ≡ old ++ got
  pub eats : Consumes had has got
  pub told : FileTold files (bytes ++ got) has failed new result

-- What was taken of a file that isn't over, and fed.
pub record Eaten (bytes old taken : List ℕ) (had has : Option (List ℕ)) (now : Seen) : Type 0 where
  pub got : List ℕ
  pub noted : taken ≡ old ++ got
  pub eats : Consumes had has got
  pub fed : now ≡ unrefused (bytes ++ got)
