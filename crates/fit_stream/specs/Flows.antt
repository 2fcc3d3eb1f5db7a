-- What flows through a stream of bytes that are fed.
use Rattle.std.specs.Prelude.{◌≡◌, ◌≢◌, ℕ, List, [], ◌++◌, length, Option, None, Some, Result, Err, IfErr, IfOk}
use Rattle.std.specs.declared.alloc.Global.{Global}
use Rattle.fit_chain.specs.declared.event.Fault.TheVariants as faults
use Rattle.fit_report.specs.declared.fault.ReportFault.{ReportFault}
use Rattle.fit_report.specs.declared.fault.ReportFault.TheVariants as reports
use Rattle.fit_report.specs.Heard.{Lines}
use Rattle.fit_stream.specs.Answers.{IsFound, IsGoodSoFar, StopsIn}

-- What has flowed through a stream: all bytes fed up to a fault and with the piece that has it, all text handed out, and the fault.
pub record Flow : Type 0 where
  pub bytes : List ℕ
  pub text : List ℕ
  pub fault : Option ReportFault

-- A piece was fed, a text was handed out, and this was answered. After a fault the answer is that fault again, with no text, and nothing
-- changes. Else the piece is added to the bytes, and the answer is how many files have ended, or the fault, which is found of all bytes
-- fed; and all text handed out is that of all bytes fed. A fault that wasn't there before has come with the piece. That the bytes end too soon
-- is none, since more may come.
pub record FeedsFlow (line : Lines Global) (first : List ℕ) (old new : Flow) (piece text : List ℕ) (answer : Result ℕ ReportFault) : Type 0 where
  pub handed : new.text ≡ old.text ++ text
  pub latched : (fault : ReportFault) → old.fault ≡ Some fault → (new ≡ old) × (text ≡ []) × (answer ≡ Err fault)
  pub fed : old.fault ≡ None → new.bytes ≡ old.bytes ++ piece
  pub good : IfOk answer (λ files. (new.fault ≡ None) × IsGoodSoFar line first new.bytes new.text files)
  pub bad : IfErr answer (λ fault. (new.fault ≡ Some fault) × IsFound line first new.bytes new.text (Err fault))
  pub stops : old.fault ≡ None → IfErr answer (StopsIn line first old.bytes piece new.text)
  pub may_go_on : IfErr answer (λ fault. (place : ℕ) → fault ≢ reports.Decode (faults.Truncated place))

-- A text was handed out, and the answer is what is found of all bytes fed: that they are a chain, or that they end too soon. The stream goes
-- on: nothing else changes. After a fault the answer is that fault again, with no text.
pub record EndsFlow (line : Lines Global) (first : List ℕ) (old new : Flow) (text : List ℕ) (answer : Result ℕ ReportFault) : Type 0 where
  pub handed : new.text ≡ old.text ++ text
  pub same : (new.bytes ≡ old.bytes) × (new.fault ≡ old.fault)
  pub latched : (fault : ReportFault) → old.fault ≡ Some fault → (text ≡ []) × (answer ≡ Err fault)
  pub found : IsFound line first new.bytes new.text answer
  pub short : old.fault ≡ None → IfErr answer (λ fault. fault ≡ reports.Decode (faults.Truncated (length new.bytes)))
