-- What a report of the bytes of a source puts in a sink.
use Rattle.std.specs.Prelude.{◌≡◌, ℕ, ◌+◌, ◌-◌, ◌^◌, ◌<◌, ◌≤◌, min, true, false, List, Result, Ok, Err, take, length, reverse, flat_map}
use Rattle.std.specs.Io.KnownBytes.{Appends, Consumes, IsAtEnd}
use Rattle.fit_record.specs.declared.file.FitFile.{FitFile}
use Rattle.fit_record.specs.Files.{chain_limit, IsViable}
use Rattle.fit_chain.specs.declared.event.Fault.{Fault}
use Rattle.fit_chain.specs.declared.event.Fault.TheVariants.{Refused, NoMemory, Read}
use Rattle.fit_chain.specs.Checks.{AreChain}
use Rattle.fit_chain.specs.Events.{Event, AreEvents, file_events}
pub use Rattle.fit_decode.specs.Reads.{Channel, channel}
use Rattle.fit_chain.specs.Memory.{IsAny}
use Rattle.fit_decode.specs.Reads.{EndsReading, WantsMemory}
use Rattle.fit_report.specs.declared.fault.ReportFault.{ReportFault}
use Rattle.fit_report.specs.declared.fault.ReportFault.TheVariants as report
use Rattle.fit_report.specs.Heard.{Lines, text_of}

-- the most bytes that a report takes at once: a piece
abbrev pub long_piece : ℕ
long_piece = 65536

-- At most a piece was taken from this place on.
abbrev pub IsInPiece : List ℕ → ℕ → Type 0
IsInPiece taken place = length taken ≤ place + long_piece

-- Some files of at most that many begin with these bytes, but for a last piece.
abbrev pub IsNearlyViable : Type 0 → ℕ → List ℕ → Type 0
IsNearlyViable A limit taken = (k : ℕ) × (k ≤ length taken) × (length taken ≤ k + long_piece) × IsViable A limit (take k taken)

-- The fault that ended the reading of a chain of at most that many files, after these bytes were taken.
abbrev pub Faults : Type 0 → ℕ → List ℕ → Channel → Fault → Type 0
Faults A limit taken source fault = EndsReading A limit (AreChain A) IsInPiece (WantsMemory A IsAny limit IsInPiece 0) taken source fault

-- the fault of a report
abbrev pub report_fault : Fault → ReportFault
report_fault (NoMemory used) = report.NoMemory
report_fault fault = report.Decode fault

-- the bytes before a fault
abbrev pub before_fault : Fault → List ℕ → List ℕ
before_fault (Refused place reason) taken = take place taken
before_fault fault taken = taken

-- ---- the text that was put

-- The events of the bytes were heard, and their text was put.
abbrev pub Tells : {A : Type 0} → Lines A → List ℕ → List (Event A) → Channel → Type 0
Tells line bytes heard sink = AreEvents bytes (reverse heard) × Appends sink.before sink.after (text_of line heard)

-- The text of the events of some first bytes was put, and memory was refused at a later byte of the last piece.
abbrev pub TellsSome : {A : Type 0} → Lines A → List ℕ → Channel → Type 0
TellsSome {A} line bytes sink = (k : ℕ) × (heard : List (Event A)) × Tells line (take k bytes) heard sink
    × WantsMemory A IsAny chain_limit IsInPiece k bytes

-- The sink has failed after some first bytes of a text, that many; the count stops at 2^64 - 1.
abbrev pub TextFailsIn : List ℕ → Channel → ℕ → Type 0
TextFailsIn text sink written =
    (sink.failed ≡ true) × (n : ℕ) × (n < length text) × Appends sink.before sink.after (take n text) × (written ≡ min n (2 ^ 64 - 1))

-- The sink has failed in the text of the events of some first bytes.
abbrev pub TextBreaksOff : {A : Type 0} → Lines A → List ℕ → Channel → ℕ → Type 0
TextBreaksOff {A} line bytes sink written = (k : ℕ) × (heard : List (Event A)) × AreEvents (take k bytes) (reverse heard)
    × TextFailsIn (text_of line heard) sink written

-- What a report told that took these bytes: all of the input, which is a chain, was told; or what is before a fault; or some of
-- it, where memory was refused at a later byte of the last piece, or where the sink failed, and then all but at most a piece of the
-- bytes begins a chain. Where the source has failed, that alone is answered.
abbrev pub HasTold : {A : Type 0} → Lines A → List ℕ → Channel → Channel → List (Event A) → Result (Unit {0}) ReportFault → Type 0
HasTold {A} line taken source sink heard (Ok _) = IsAtEnd source.after × (source.failed ≡ false) × AreChain A taken × Tells line taken heard sink
HasTold line taken source sink heard (Err (report.Decode (NoMemory used))) = ⊥
HasTold {A} line taken source sink heard (Err (report.Decode fault)) =
    Faults A chain_limit taken source fault × Tells line (before_fault fault taken) heard sink
HasTold line taken source sink heard (Err report.NoMemory) = TellsSome line taken sink × (source.failed ≡ false)
HasTold {A} line taken source sink heard (Err (report.Write written)) =
    TextBreaksOff line taken sink written × IsNearlyViable A chain_limit taken × (source.failed ≡ false)

-- The reporter has heard these events, unless memory was refused or the sink has failed.
abbrev pub HasHeard : {A R : Type 0} → (R → List (Event A) → Type 0) → R → List (Event A) → Result (Unit {0}) ReportFault → Type 0
HasHeard has_heard reporter heard (Ok _) = has_heard reporter heard
HasHeard has_heard reporter heard (Err (report.Decode fault)) = has_heard reporter heard
HasHeard has_heard reporter heard (Err report.NoMemory) = Unit {0}
HasHeard has_heard reporter heard (Err (report.Write written)) = Unit {0}

-- What a report did: the bytes that it took, and the events that it told a sink and this reporter.
abbrev pub Reports : {A R : Type 0} → (R → List (Event A) → Type 0) → R → Lines A → Channel → Channel → Result (Unit {0}) ReportFault → Type 0
Reports {A} has_heard reporter line source sink result = (taken : List ℕ) × (heard : List (Event A)) × Consumes source.before source.after taken
    × HasTold line taken source sink heard result × HasHeard has_heard reporter heard result

-- The answer where the input is the bytes of this chain: its text was put; or the source or the sink has failed, or memory was
-- refused.
abbrev pub ReportsChain : {A : Type 0} → Lines A → List (FitFile A) → Channel → Channel → Result (Unit {0}) ReportFault → Type 0
ReportsChain line fs source sink (Ok _) = Appends sink.before sink.after (text_of line (reverse (flat_map file_events fs)))
ReportsChain line fs source sink (Err (report.Decode (Read place))) = source.failed ≡ true
ReportsChain line fs source sink (Err (report.Decode fault)) = ⊥
ReportsChain line fs source sink (Err report.NoMemory) = source.failed ≡ false
ReportsChain line fs source sink (Err (report.Write written)) = sink.failed ≡ true
