-- What the calls on a stream answer.
use Rattle.std.specs.Prelude.{◌≡◌, ℕ, List, [], None, Result, Ok, Err}
use Rattle.fit_report.specs.declared.fault.ReportFault.{ReportFault}
use Rattle.fit_stream.specs.declared.kind.Kind.{Kind}
use Rattle.fit_stream.specs.declared.kind.Kind.TheVariants as kinds
use Rattle.fit_stream.specs.Flows.{EndsFlow, FeedsFlow}
use Rattle.fit_stream.specs.Streams.{StreamNow, first_for, line_for}
use Rattle.fit_c.specs.declared.answer.FitAnswer.{FitAnswer}
use Rattle.fit_c.specs.Answers.{report_answer, status_alone}

-- the number of a kind, as `gazhdor.h` has it
abbrev pub stream_kind : Kind → ℕ
stream_kind kinds.Check = 0
stream_kind kinds.Show = 1
stream_kind kinds.Table = 2
stream_kind kinds.Rows = 3
stream_kind kinds.Messages = 4

-- a stream to which nothing was fed
abbrev pub begun : Kind → StreamNow
begun kind = record { kind = kind; flow = record { bytes = []; text = []; fault = None } }

-- what is said of what a stream answered: how many files have ended, or what is said of a report's fault
abbrev pub stream_answer : Result ℕ ReportFault → FitAnswer
stream_answer (Ok files) = record (status_alone 0) { files = files }
stream_answer (Err fault) = report_answer {X = ℕ} (Err fault)

-- A piece was fed to a stream, a text was handed out, and this was answered.
abbrev pub FeedsStream : StreamNow → StreamNow → List ℕ → List ℕ → FitAnswer → Type 0
FeedsStream old new piece text a =
    (new.kind ≡ old.kind) × (r : Result ℕ ReportFault) × (a ≡ stream_answer r)
    × FeedsFlow (line_for old.kind) (first_for old.kind) old.flow new.flow piece text r

-- A text was handed out, and this was answered of all bytes fed.
abbrev pub EndsStream : StreamNow → StreamNow → List ℕ → FitAnswer → Type 0
EndsStream old new text a =
    (new.kind ≡ old.kind) × (r : Result ℕ ReportFault) × (a ≡ stream_answer r) × EndsFlow (line_for old.kind) (first_for old.kind) old.flow new.flow text r
