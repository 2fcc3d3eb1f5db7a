-- What a caller of a decoder sees: the bytes fed that weren't refused, and the refusal if there was one.
use Rattle.std.specs.Prelude.{◌≡◌, ◌⊎◌, ℕ, ◌+◌, ◌-◌, ◌<◌, ◌≤◌, List, [], ◌∷◌, ◌++◌, Option, Some, None, take, drop, length, map, slice_index}
use Rattle.fit_frame.specs.declared.reason.Reason.{Reason}
use Rattle.fit_frame.specs.declared.header.Header.{Header}
use Rattle.fit_record.specs.declared.file.FitFile.{FitFile}
use Rattle.fit_record.specs.declared.message.Record.{Record}
use Rattle.fit_record.specs.declared.message.Record.TheVariants.{Values as Data}
use Rattle.fit_record.specs.declared.message.Values.{Values}
use Rattle.fit_record.specs.Environment.{empty_environment, learn_all}
use Rattle.fit_record.specs.Records.{IsRecord, records_bytes}
use Rattle.fit_record.specs.Files.{chain_limit, IsViable}
use Rattle.fit_step.specs.Skipping.{HasMessage, Learns}
use Rattle.fit_chain.specs.Progress.{at_data, HasCome}
use Rattle.fit_chain.specs.declared.event.Event.{Event as Answer}
use Rattle.fit_chain.specs.declared.event.Event.TheVariants as answers
use Rattle.fit_chain.specs.Events.{Event, header, item, file_end, AreEvents, known_after}
use Rattle.fit_chain.specs.Pieces.{Quiet}
use Rattle.fit_chain.specs.Memory.{MayTakeMemory}
use Rattle.fit_chain.specs.Refusals.{IsRefused}

pub record Seen : Type 0 where
  pub bytes : List ℕ
  pub refusal : Option Reason

-- what an answer tells
abbrev pub event_of : {A : Type 0} → Answer A → Option (Event A)
event_of answers.More = None
event_of (answers.Header h n) = Some (header h n)
event_of (answers.Item r) = Some (item r)
event_of answers.FileEnd = Some file_end

-- the bytes fed and the first k of the piece
abbrev pub fed : Seen → List ℕ → ℕ → Seen
fed old piece k = record { bytes = old.bytes ++ take k piece; refusal = None }

-- The byte at this place is refused, and no event stands before it.
pub record Refuses (A : Type 0) (old : Seen) (piece : List ℕ) (new : Seen) (place : ℕ) (reason : Reason) : Type 0 where
  pub used : ℕ
  pub within : used < length piece
  pub is_place : place ≡ length old.bytes + used
  pub after : new ≡ record { bytes = old.bytes ++ take used piece; refusal = Some reason }
  pub quiet : Quiet A old.bytes piece used
  pub why : IsRefused A chain_limit (old.bytes ++ take used piece) (slice_index piece used) reason

-- Memory was refused at the byte after the first used ones, which isn't one to be refused, nor one that takes no memory.
-- No event stands before it.
pub record Wants (A : Type 0) (old : Seen) (piece : List ℕ) (new : Seen) (used : ℕ) : Type 0 where
  pub within : used < length piece
  pub after : new ≡ fed old piece used
  pub quiet : Quiet A old.bytes piece used
  pub next : IsViable A chain_limit (old.bytes ++ take (used + 1) piece)
  pub takes : MayTakeMemory A (old.bytes ++ take used piece) (slice_index piece used)

-- After whole records of a data section the piece begins with a data message of this size that is no field description, and at least
-- six bytes of the section are to come after it.
abbrev pub MessageFollows : Type 0 → List ℕ → List ℕ → ℕ → Type 0
MessageFollows A bytes piece size =
    (fs : List (FitFile A)) × (h : Header) × (n : ℕ) × (records : List (Record A)) × HasCome fs (at_data h n records []) bytes
    × HasMessage (learn_all empty_environment records) piece size × (size + 6 ≤ n - length (records_bytes empty_environment records))

-- No byte is used, and there are no records. Or no byte was refused, whole records of a data section have come, and the first bytes of the
-- piece, that many, are those of these records, of which nothing is learned; at least six bytes of the section are to come after them.
abbrev pub MessagesFollow : (A : Type 0) → Seen → List ℕ → ℕ → List (Record A) → Type 0
MessagesFollow A seen piece used records =
    ((used ≡ 0) × (records ≡ []))
    ⊎ ((seen.refusal ≡ None) × (fs : List (FitFile A)) × (h : Header) × (n : ℕ) × (before : List (Record A))
    × HasCome fs (at_data h n before []) seen.bytes × (used ≤ length piece)
    × Learns (learn_all empty_environment before) (learn_all empty_environment before) (take used piece) records
    × (used + 6 ≤ n - length (records_bytes empty_environment before)))

-- No byte was refused, whole records of a data section have come, and more of the section is to come after them: the next byte begins a
-- record.
abbrev pub RecordIsToCome : Type 0 → Seen → Type 0
RecordIsToCome A seen =
    (seen.refusal ≡ None) × (fs : List (FitFile A)) × (h : Header) × (n : ℕ) × (records : List (Record A))
    × HasCome fs (at_data h n records []) seen.bytes × (length (records_bytes empty_environment records) < n)

-- Messages are looked at ahead in this piece, after what was fed to a decoder, and were found in the first bytes of it, that many.
pub record LookedAhead : Type 0 where
  pub fed : Seen
  pub piece : List ℕ
  pub used : ℕ

-- The next bytes of the piece, that many, are those of a data message, by what is known after the records before it, which are any that
-- the bytes before it may be; and it follows these.
abbrev pub NextMessage : (A : Type 0) → LookedAhead → ℕ → Type 0
NextMessage A a size =
    (v : Values A) × ((records : List (Record A)) → MessagesFollow A a.fed a.piece a.used records
    → MessagesFollow A a.fed a.piece (a.used + size) (records ++ Data v ∷ [])
    × ((events : List (Event A)) → AreEvents a.fed.bytes events
    → IsRecord (known_after (events ++ map item records)) (Data v) (take size (drop a.used a.piece))))
