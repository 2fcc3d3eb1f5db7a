-- What the calls on a writer of messages answer.
use Rattle.std.specs.Prelude.{◌≡◌, ◌⊎◌, ℕ, List, [], Bool, Option, Some, None, Result, Ok, Err, IfErr, IfOk, OnErr, OnOk}
use Rattle.fit_decode.specs.Reads.{Channel}
use Rattle.fit_record.specs.Files.{IsChain, chain_bytes, chain_limit}
use Rattle.fit_from_messages.specs.Parts.{definition_in, header_in}
use Rattle.fit_writer.specs.Finished.{IsFinished, IsNotFinished}
use Rattle.fit_writer.specs.Runs.{PutsMessages, StopsRun}
use Rattle.fit_writer.specs.Written.{BeginsFile, IsDefinitionRefusal, IsHeaderRefusal, PutsDefinition, Writing}
use Rattle.fit_writer.specs.declared.done.Run.{Run}
use Rattle.fit_writer.specs.declared.refusal.FinishFault.{FinishFault}
use Rattle.fit_writer.specs.declared.refusal.FinishFault.TheVariants as finish
use Rattle.fit_writer.specs.declared.refusal.Refusal.{Refusal}
use Rattle.fit_writer.specs.declared.refusal.Refusal.TheVariants as refusal
use Rattle.fit_writer.specs.declared.refusal.RunRefusal.{RunRefusal}
use Rattle.fit_c.specs.declared.answer.FitAnswer.{FitAnswer}
use Rattle.fit_c.specs.Answers.{block_reason_code, kept, status_alone}

-- a block can't be put, for the reason with this number of `gazhdor.h`
abbrev pub block_answer : ℕ → FitAnswer
block_answer reason = record (status_alone 8) { reason = reason }

-- what is said of a refusal
abbrev pub refusal_answer : Refusal → FitAnswer
refusal_answer (refusal.Block reason) = block_answer (block_reason_code reason)
refusal_answer (refusal.Message reason) = block_answer (block_reason_code reason)
refusal_answer refusal.NoFile = block_answer 11
refusal_answer refusal.TooManyFiles = block_answer 12
refusal_answer refusal.Full = block_answer 13
refusal_answer refusal.Time = block_answer 14
refusal_answer refusal.Described = block_answer 15
refusal_answer refusal.TooLong = block_answer 16
refusal_answer refusal.NoMemory = status_alone 3

-- what is said of what a put answered
abbrev pub put_answer : Result (Unit {0}) Refusal → FitAnswer
put_answer (Ok _) = status_alone 0
put_answer (Err why) = refusal_answer why

-- 1 where the block of the definition is what can't stand
abbrev pub definition_column : Refusal → ℕ
definition_column (refusal.Block reason) = 1
definition_column _ = 0

-- what is said of what a run of messages answered: how many were put, how many come before the first whose amounts are read otherwise, and where
-- the next begins
abbrev pub run_answer : Result Run RunRefusal → FitAnswer
run_answer (Ok run) = record (status_alone 0) { row = run.count; files = run.accumulated }
run_answer (Err stop) =
    record (refusal_answer stop.refusal) { place = stop.place; row = stop.count; column = definition_column stop.refusal; files = stop.accumulated }

-- what is said of what the end of a chain answered; the sink is memory, which may be refused
abbrev pub finish_answer : Result (Unit {0}) FinishFault → FitAnswer
finish_answer (Ok _) = status_alone 0
finish_answer (Err finish.NoFile) = block_answer 11
finish_answer (Err finish.NoMemory) = status_alone 3
finish_answer (Err (finish.Write written)) = status_alone 3

-- ---- what each call did, and answered

abbrev pub AnswersFile : Writing → Writing → List ℕ → FitAnswer → Type 0
AnswersFile old new block a =
    (r : Result (Unit {0}) Refusal) × (a ≡ put_answer r) × OnOk r (BeginsFile old new (header_in block)) × IfErr r (IsHeaderRefusal old block)
    × OnErr r (new ≡ old)

abbrev pub AnswersDefinition : Writing → Writing → List ℕ → FitAnswer → Type 0
AnswersDefinition old new block a =
    (r : Result (Unit {0}) Refusal) × (a ≡ put_answer r) × OnOk r (PutsDefinition old new (definition_in block))
    × IfErr r (IsDefinitionRefusal old.current block) × OnErr r (new ≡ old)

abbrev pub AnswersMessages : Writing → Writing → List ℕ → List ℕ → FitAnswer → Type 0
AnswersMessages old new definition blocks a =
    (r : Result Run RunRefusal) × (a ≡ run_answer r) × IfOk r (PutsMessages old new definition blocks) × IfErr r (StopsRun old new definition blocks)

-- Into a sink that was empty the chain was put, and it is handed out; or that failed, and nothing is.
abbrev pub AnswersFinish : Writing → Writing → List ℕ → FitAnswer → Type 0
AnswersFinish old new bytes a =
    (r : Result (Unit {0}) FinishFault) × (text : List ℕ) × (failed : Bool) × (a ≡ finish_answer r) × OnOk r (IsFinished old new (kept text failed))
    × IfErr r (IsNotFinished old new (kept text failed)) × OnOk r (bytes ≡ text) × OnErr r (bytes ≡ [])
