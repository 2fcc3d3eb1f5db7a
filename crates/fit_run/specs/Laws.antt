-- What `check` writes of a chain, and what is found of an input.
use Rattle.std.specs.Prelude.{◌≡◌, ◌≢◌, ◌++◌, ℕ, false, List, Some, Result, flat_map, reverse}
use Rattle.std.specs.Io.KnownBytes.{Consumes}
use Rattle.fit_base.specs.Numbers.{IsBytes}
use Rattle.fit_record.specs.declared.file.FitFile.{FitFile}
use Rattle.fit_chain.specs.declared.event.Fault.{Fault}
use Rattle.fit_chain.specs.Events.{file_events}
use Rattle.fit_report.specs.Heard.{text_of}
use Rattle.fit_report.specs.Reports.{Channel}
use Rattle.fit_run.specs.declared.command_line.Command.{Command}
use Rattle.fit_run.specs.Lines.{check_line, file_lines}
use Rattle.fit_run.specs.Run.{ReportFinds, RunsCommand, good_bytes}

-- The text of a chain's events is a line for each file.
abbrev pub ChainsHaveLines : Type 0 → Type 0
ChainsHaveLines A = (fs : List (FitFile A)) → text_of check_line (reverse (flat_map file_events fs)) ≡ file_lines 1 fs

-- A run over this input took some of it, and found this; its source has not failed.
pub record HasFound (A : Type 0) (input taken : List ℕ) (source : Channel) (found : Result (Unit {0}) Fault) : Type 0 where
  pub before : source.before ≡ Some input
  pub took : Consumes source.before source.after taken
  pub works : source.failed ≡ false
  pub finds : ReportFinds A taken source found

-- Two runs over one input find the same, and the same bytes of it good.
abbrev pub FindingsAreOne : Type 0 → Type 0
FindingsAreOne A =
    (input : List ℕ) → IsBytes input → (taken others : List ℕ) (source other : Channel) (found again : Result (Unit {0}) Fault)
    → HasFound A input taken source found → HasFound A input others other again → (found ≡ again) × (good_bytes found taken ≡ good_bytes again others)

-- A run of a command on this input, whose source and output have not failed and to which memory was not refused, answered this
-- status and wrote this text.
pub record HasRun (command : Command) (input : List ℕ) (status : ℕ) (text : List ℕ) : Type 0 where
  pub source : Channel
  pub output : Channel
  pub faults : Channel
  pub old : List ℕ
  pub runs : RunsCommand command source output faults status
  pub read : source.before ≡ Some input
  pub held : output.before ≡ Some old
  pub wrote : output.after ≡ Some (old ++ text)
  pub works : source.failed ≡ false
  pub good : output.failed ≡ false
  pub memory : status ≢ 3

-- Two such runs of a command answered the same status and wrote the same text, or the same bytes.
abbrev pub RunsAreOne : Type 0
RunsAreOne =
    (command : Command) (input : List ℕ) (status again : ℕ) (text other : List ℕ) → IsBytes input
    → HasRun command input status text → HasRun command input again other → (status ≡ again) × (text ≡ other)
