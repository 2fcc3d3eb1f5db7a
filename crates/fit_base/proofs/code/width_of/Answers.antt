use Rattle.fit_base.proofs.Common.{rules}
use Rattle.fit_base.proofs.code.width_of.Goals as goal

pub returns-else-divides : goal.returns-else-divides
returns-else-divides c = search rules
