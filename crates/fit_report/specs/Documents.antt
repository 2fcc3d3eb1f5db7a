-- What the report of a document puts in a sink: the text of all events, and then an ending.
use Rattle.std.specs.Prelude.{◌≡◌, ◌⊎◌, ℕ, ◌-◌, ◌^◌, ◌<◌, ◌≤◌, min, true, false, List, ◌++◌, Result, Ok, Err, IsErr, take, length, reverse, flat_map}
use Rattle.std.specs.Io.KnownBytes.{Appends, Consumes, IsAtEnd}
use Rattle.fit_record.specs.declared.file.FitFile.{FitFile}
use Rattle.fit_record.specs.Files.{chain_limit, IsViable}
use Rattle.fit_chain.specs.Checks.{AreChain}
use Rattle.fit_chain.specs.Events.{Event, AreEvents, file_events}
use Rattle.fit_report.specs.declared.fault.ReportFault.{ReportFault}
use Rattle.fit_report.specs.declared.fault.ReportFault.TheVariants.{Decode, NoMemory, Write}
use Rattle.fit_report.specs.Heard.{Lines, text_of}
use Rattle.fit_report.specs.Reports.{Channel, HasTold, HasHeard, ReportsChain}

-- the text after all events, the latest first
abbrev pub Ending : Type 0 → Type 0
Ending A = List (Event A) → List ℕ

-- the text of a document: that of its events, and its ending
abbrev pub document_of : {A : Type 0} → Lines A → Ending A → List (Event A) → List ℕ
document_of line ending heard = text_of line heard ++ ending heard

-- Some chain of files has just these events, the latest first.
abbrev pub AreAllHeard : {A : Type 0} → List (Event A) → Type 0
AreAllHeard {A} heard = (bytes : List ℕ) × IsViable A chain_limit bytes × AreChain A bytes × AreEvents bytes (reverse heard)

-- All of the input was taken, and is a chain with these events.
abbrev pub TakesAll : {A : Type 0} → List ℕ → Channel → List (Event A) → Type 0
TakesAll {A} taken source heard = IsAtEnd source.after × (source.failed ≡ false) × AreChain A taken × AreEvents taken (reverse heard)

-- What was put of a document, all of whose events were told: all of it; or the text of the events alone, where memory was refused for
-- the ending; or that text and a part of the ending, `n` bytes in all, where the sink failed in the ending. The count stops at 2^64 - 1.
abbrev pub PutsDocument : {A : Type 0} → Lines A → Ending A → List (Event A) → Channel → Result (Unit {0}) ReportFault → Type 0
PutsDocument line ending heard sink (Ok _) = Appends sink.before sink.after (document_of line ending heard)
PutsDocument line ending heard sink (Err (Decode fault)) = ⊥
PutsDocument line ending heard sink (Err NoMemory) = Appends sink.before sink.after (text_of line heard)
PutsDocument line ending heard sink (Err (Write written)) =
    (sink.failed ≡ true) × (n : ℕ) × (length (text_of line heard) ≤ n) × (n < length (document_of line ending heard))
    × Appends sink.before sink.after (take n (document_of line ending heard)) × (written ≡ min n (2 ^ 64 - 1))

-- What the report of a document did that took these bytes: all of the input, which is a chain, was told, and the ending came next; or a
-- fault came before the ending, as in a report.
abbrev pub HasToldDocument : {A : Type 0} → Lines A → Ending A → List ℕ → Channel → Channel → List (Event A) → Result (Unit {0}) ReportFault
    → Type 0
HasToldDocument line ending taken source sink heard result =
    (TakesAll taken source heard × PutsDocument line ending heard sink result) ⊎ (IsErr result × HasTold line taken source sink heard result)

-- What the report of a document did: the bytes that it took, and the events that it told a sink and this reporter.
abbrev pub ReportsDocument : {A R : Type 0} → (R → List (Event A) → Type 0) → R → Lines A → Ending A → Channel → Channel
    → Result (Unit {0}) ReportFault → Type 0
ReportsDocument {A} has_heard reporter line ending source sink result =
    (taken : List ℕ) × (heard : List (Event A)) × Consumes source.before source.after taken
    × HasToldDocument line ending taken source sink heard result × HasHeard has_heard reporter heard result

-- The answer where the input is the bytes of this chain: its text and the ending were put; or the source or the sink has failed, or
-- memory was refused.
abbrev pub ReportsChainDocument : {A : Type 0} → Lines A → Ending A → List (FitFile A) → Channel → Channel → Result (Unit {0}) ReportFault → Type 0
ReportsChainDocument line ending fs source sink (Ok _) =
    Appends sink.before sink.after (document_of line ending (reverse (flat_map file_events fs)))
ReportsChainDocument line ending fs source sink (Err fault) = ReportsChain line fs source sink (Err fault)
