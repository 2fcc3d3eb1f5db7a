-- What a lane keeps.
use Rattle.std.specs.Prelude.{◌≡◌, ◌≢◌, ℕ, List, ◌++◌, Option, None, Some, Err}
use Rattle.std.specs.declared.alloc.Global.{Global}
use Rattle.fit_record.specs.Files.{chain_limit, IsViable}
use Rattle.fit_chain.specs.declared.event.Fault.TheVariants as faults
use Rattle.fit_chain.specs.Events.{Event}
use Rattle.fit_report.specs.declared.fault.ReportFault.{ReportFault}
use Rattle.fit_report.specs.declared.fault.ReportFault.TheVariants as reports
use Rattle.fit_report.specs.Heard.{Lines}
use Rattle.fit_report.specs.Telling.{Stands, ToldSoFar}
use Rattle.fit_stream.specs.Answers.{IsFound}
use Rattle.fit_stream.specs.Flows.{Flow}

-- what clauses see of a lane: its first line, and what has flowed through it
pub record LaneNow : Type 0 where
  pub first : List ℕ
  pub flow : Flow

-- No fault has come: all bytes were fed to the telling, and what was taken with what is kept is the first line and the text that was told.
pub record LaneGoesOn {R : Type 0} (has_heard : R → List (Event Global) → Type 0) (line : Lines Global) (reporter : R) (telling : ToldSoFar)
    (held : Option (List ℕ)) (first bytes taken : List ℕ) : Type 0 where
  pub fresh : telling.seen.refusal ≡ None
  pub fed : telling.seen.bytes ≡ bytes
  pub viable : IsViable Global chain_limit telling.seen.bytes
  pub kept : List ℕ
  pub is_kept : held ≡ Some kept
  pub told : List ℕ
  pub joined : taken ++ kept ≡ first ++ told
  pub stands : Stands has_heard line reporter telling.seen.bytes told held held telling.written

-- No fault has come, or it is what was found of the bytes.
pub record IsSoundLane {R : Type 0} (has_heard : R → List (Event Global) → Type 0) (line : Lines Global) (reporter : R) (telling : ToldSoFar)
    (held : Option (List ℕ)) (fault : Option ReportFault) (first bytes taken : List ℕ) : Type 0 where
  pub goes_on : fault ≡ None → LaneGoesOn has_heard line reporter telling held first bytes taken
  pub stopped : (f : ReportFault) → fault ≡ Some f → IsFound line first bytes taken (Err f)
  pub may_go_on : (f : ReportFault) → fault ≡ Some f → (place : ℕ) → f ≢ reports.Decode (faults.Truncated place)
