-- What the parts of a report do.
use Rattle.std.specs.Prelude.{◌≡◌, ℕ, ◌+◌, ◌-◌, ◌^◌, ◌<◌, ◌≤◌, min, true, false, List, [], Option, None, Result, Ok, Err, take, length}
use Rattle.std.specs.Io.KnownBytes.{Appends, Consumes, IsAtEnd}
use Rattle.std.specs.Global.{Global}
use Rattle.fit_record.specs.Files.{chain_limit, IsViable}
use Rattle.fit_report.specs.declared.fault.ReportFault.{ReportFault}
use Rattle.fit_report.specs.declared.fault.ReportFault.TheVariants.{Decode, NoMemory, Write}
use Rattle.fit_chain.specs.Checks.{AreChain}
use Rattle.fit_chain.specs.Events.{Event}
use Rattle.fit_report.specs.Heard.{Lines}
use Rattle.fit_report.specs.Reports.{Channel, Reports}
use Rattle.fit_report.specs.Telling.{Stands, ToldSoFar}

-- What the putting of a text did, after that many bytes of text.
abbrev pub Puts : List ℕ → Channel → ℕ → ℕ → Result (Unit {0}) ReportFault → Type 0
Puts text sink old new (Ok _) = Appends sink.before sink.after text × (new ≡ min (old + length text) (2 ^ 64 - 1))
Puts text sink old new (Err (Write written)) =
    (sink.failed ≡ true) × (n : ℕ) × (n < length text) × Appends sink.before sink.after (take n text) × (written ≡ min (old + n) (2 ^ 64 - 1))
Puts text sink old new (Err fault) = ⊥

-- The bytes fed begin a chain, and that many bytes of memory at most are kept for texts.
pub record IsSoundTelling (bytes : List ℕ) (room : ℕ) : Type 0 where
  pub viable : IsViable Global chain_limit bytes
  pub bounded : room ≤ 4096

-- A report has come to a place: all bytes up to there were taken from a source and told in a sink, which began so.
pub record HasComeTo {R : Type 0} (has_heard : R → List (Event Global) → Type 0) (line : Lines Global) (reporter : R) (telling : ToldSoFar) (place : ℕ)
    (begin source start sink : Option (List ℕ)) : Type 0 where
  pub fresh : telling.seen.refusal ≡ None
  pub viable : IsViable Global chain_limit telling.seen.bytes
  pub counted : place ≡ length telling.seen.bytes
  pub eaten : Consumes begin source telling.seen.bytes
  pub stands : Stands has_heard line reporter telling.seen.bytes [] start sink telling.written

-- What a report did that came to a place, by its source and its sink as they were at first.
abbrev pub ReportsFrom : {R : Type 0} → (R → List (Event Global) → Type 0) → Lines Global → R → R → ToldSoFar → ℕ → Channel → Channel
    → Result (Unit {0}) ReportFault → Type 0
ReportsFrom has_heard line before after telling place source sink result =
    (begin start : Option (List ℕ)) → HasComeTo has_heard line before telling place begin source.before start sink.before
    → Reports has_heard after line (record source { before = begin }) (record sink { before = start }) result

-- What the telling of one more piece did, of that many bytes: none at the end of the input.
abbrev pub TellsPiece : {R : Type 0} → (R → List (Event Global) → Type 0) → Lines Global → R → R → ToldSoFar → ToldSoFar → ℕ → Channel → Channel
    → Result ℕ ReportFault → Type 0
TellsPiece has_heard line before after old new place source sink (Err fault) = ReportsFrom has_heard line before after old place source sink (Err fault)
TellsPiece has_heard line before after old new place source sink (Ok got) =
    (got ≡ 0 → ReportsFrom has_heard line before after old place source sink (Ok tt))
    × (0 < got → (begin start : Option (List ℕ)) → HasComeTo has_heard line before old place begin source.before start sink.before
    → HasComeTo has_heard line after new (place + got) begin source.after start sink.after)

-- The place to which a report has come is the end of its input, which is a chain.
abbrev pub HasComeToEnd : {R : Type 0} → (R → List (Event Global) → Type 0) → Lines Global → R → ToldSoFar → Channel → Option (List ℕ) → Option (List ℕ)
    → Type 0
HasComeToEnd has_heard line reporter telling source start sink =
    HasComeTo has_heard line reporter telling (length telling.seen.bytes) source.before source.after start sink
    × AreChain Global telling.seen.bytes × IsAtEnd source.after × (source.failed ≡ false)

-- A report that came to a place has come to the end, by its source and its sink as they were at first.
abbrev pub EndsFrom : {R : Type 0} → (R → List (Event Global) → Type 0) → Lines Global → R → R → ToldSoFar → ToldSoFar → ℕ → Channel → Channel → Type 0
EndsFrom has_heard line before after old new place source sink =
    (begin start : Option (List ℕ)) → HasComeTo has_heard line before old place begin source.before start sink.before
    → HasComeToEnd has_heard line after new (record source { before = begin }) start sink.after

-- What the putting of the ending did, after that many bytes of text: without memory nothing.
abbrev pub PutsEnding : List ℕ → Channel → ℕ → Result (Unit {0}) ReportFault → Type 0
PutsEnding text sink old (Ok _) = Appends sink.before sink.after text
PutsEnding text sink old (Err (Decode fault)) = ⊥
PutsEnding text sink old (Err NoMemory) = sink.after ≡ sink.before
PutsEnding text sink old (Err (Write written)) =
    (sink.failed ≡ true) × (n : ℕ) × (n < length text) × Appends sink.before sink.after (take n text) × (written ≡ min (old + n) (2 ^ 64 - 1))
