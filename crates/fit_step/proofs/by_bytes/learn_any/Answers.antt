use Rattle.fit_step.proofs.Common.{rules}
use Rattle.fit_step.proofs.by_bytes.learn_any.Goals as goal

pub returns-in-Ok-clause-learned : goal.returns-in-Ok-clause-learned
returns-in-Ok-clause-learned g c = search rules
