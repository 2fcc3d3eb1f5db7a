use Rattle.fit_encode.proofs.FaultSteps.{if_lone}
use Rattle.fit_encode.proofs.check.check_one.Goals as goal

pub returns-clause-err : goal.returns-clause-err
returns-clause-err g c = if_lone c.args.file.now c.check_file.result c.check_file.ensures.err

pub returns-clause-ok : goal.returns-clause-ok
returns-clause-ok g c = c.check_file.ensures.ok
