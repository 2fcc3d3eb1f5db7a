use Rattle.fit_run.proofs.Said.{Puts-all}
use Rattle.fit_run.proofs.running.fail.Goals as goal

pub returns-clause-line : goal.returns-clause-line
returns-clause-line g c = rw c.as_bytes.ensures.value at
    (Puts-all _ _ _ _ c.as_bytes.result.now c.put_all.ensures.ok c.put_all.ensures.err c.put_all.ensures.part c.put_all.ensures.failed)
