-- What the telling of a chain's bytes does, piece by piece.
use Rattle.std.specs.Prelude.{◌≡◌, ℕ, ◌+◌, ◌-◌, ◌^◌, ◌<◌, min, true, List, ◌++◌, Option, Some, Result, Ok, Err, take, drop, length, reverse, slice_index}
use Rattle.std.specs.Io.KnownBytes.{Appends}
use Rattle.fit_record.specs.Files.{chain_limit, IsViable}
use Rattle.fit_chain.specs.declared.event.Fault.TheVariants.{Refused}
use Rattle.fit_chain.specs.Events.{Event, AreEvents}
use Rattle.fit_chain.specs.Memory.{IsAny, MayLackMemoryIn}
use Rattle.fit_chain.specs.Refusals.{IsRefused}
use Rattle.fit_decode.specs.Answers.{Seen}
use Rattle.fit_report.specs.declared.fault.ReportFault.{ReportFault}
use Rattle.fit_report.specs.declared.fault.ReportFault.TheVariants.{Decode, NoMemory, Write}
use Rattle.fit_report.specs.Heard.{Lines, text_of}
use Rattle.fit_report.specs.Reports.{Channel}

-- What a caller of a telling sees: the bytes fed that weren't refused, with the refusal if there was one, and how many bytes of text were
-- put; the count stops at 2^64 - 1.
pub record ToldSoFar : Type 0 where
  pub seen : Seen
  pub written : ℕ

-- A reporter has heard the events of the bytes. After their text that was put before, `told`, a sink that held `start` has the rest of
-- it; and so long is the whole text: the count stops at 2^64 - 1.
pub record Stands {A R : Type 0} (has_heard : R → List (Event A) → Type 0) (line : Lines A) (reporter : R) (bytes told : List ℕ)
    (start now : Option (List ℕ)) (written : ℕ) : Type 0 where
  pub heard : List (Event A)
  pub has : has_heard reporter heard
  pub are : AreEvents bytes (reverse heard)
  pub text : List ℕ
  pub is_text : text_of line heard ≡ told ++ text
  pub put : Appends start now text
  pub counted : written ≡ min (length (text_of line heard)) (2 ^ 64 - 1)

-- These are the events of the bytes, and their text was put after what was told before.
abbrev pub TellsMore : {A : Type 0} → Lines A → List ℕ → List ℕ → List (Event A) → Channel → Type 0
TellsMore line bytes told heard sink =
    AreEvents bytes (reverse heard) × (text : List ℕ) × (text_of line heard ≡ told ++ text) × Appends sink.before sink.after text

-- Where the telling of a piece after these bytes has stopped: at a byte that is refused, and what is before it was told and heard; or
-- after some first bytes, where memory was refused at a later byte of the piece, or the sink failed in their text.
abbrev pub Stops : {A R : Type 0} → (R → List (Event A) → Type 0) → Lines A → List ℕ → List ℕ → List ℕ → R → Channel → ReportFault → Type 0
Stops {A} has_heard line bytes told piece reporter sink (Decode (Refused place reason)) =
    (k : ℕ) × (k < length piece) × (place ≡ length bytes + k) × IsRefused A chain_limit (bytes ++ take k piece) (slice_index piece k) reason
    × (heard : List (Event A)) × has_heard reporter heard × TellsMore line (bytes ++ take k piece) told heard sink
Stops has_heard line bytes told piece reporter sink (Decode fault) = ⊥
Stops {A} has_heard line bytes told piece reporter sink NoMemory =
    (k : ℕ) × (heard : List (Event A)) × TellsMore line (bytes ++ take k piece) told heard sink × MayLackMemoryIn A IsAny (bytes ++ take k piece) (drop k piece)
Stops {A} has_heard line bytes told piece reporter sink (Write count) =
    (k : ℕ) × (heard : List (Event A)) × IsViable A chain_limit (bytes ++ take k piece) × AreEvents (bytes ++ take k piece) (reverse heard)
    × (text : List ℕ) × (text_of line heard ≡ told ++ text) × (sink.failed ≡ true) × (n : ℕ) × (n < length text)
    × Appends sink.before sink.after (take n text) × (count ≡ min (length told + n) (2 ^ 64 - 1))

-- What is kept where a byte of a piece after these bytes is refused: the bytes before it, and the reason.
abbrev pub KeepsRefusal : List ℕ → List ℕ → Seen → ReportFault → Type 0
KeepsRefusal bytes piece seen (Decode (Refused place reason)) =
    (k : ℕ) × (place ≡ length bytes + k) × (seen ≡ record { bytes = bytes ++ take k piece; refusal = Some reason })
KeepsRefusal bytes piece seen fault = Unit {0}

-- What a call told that feeds some of a piece after these bytes, so that more bytes are fed then: whatever was told before it, and
-- wherever the sink began, it has told the events up to there, or has stopped.
abbrev pub Passes : {A R X : Type 0} → (R → List (Event A) → Type 0) → Lines A → R → R → List ℕ → List ℕ → List ℕ → Channel → ℕ → ℕ
    → Result X ReportFault → Type 0
Passes has_heard line before after bytes piece more sink old new (Ok _) =
    (told : List ℕ) (start : Option (List ℕ)) → Stands has_heard line before bytes told start sink.before old
    → Stands has_heard line after more told start sink.after new
Passes has_heard line before after bytes piece more sink old new (Err fault) =
    (told : List ℕ) (start : Option (List ℕ)) → Stands has_heard line before bytes told start sink.before old
    → Stops has_heard line bytes told piece after (record sink { before = start }) fault
