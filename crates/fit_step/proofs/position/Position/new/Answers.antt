use Rattle.fit_step.proofs.Common.{rules}
use Rattle.fit_step.proofs.position.Position.new.Goals as goal

pub returns-clause-begins : goal.returns-clause-begins
returns-clause-begins c = search rules
