use Rattle.fit_step.proofs.Common.{arith}
use Rattle.std.proofs.lemmas.Grind.{common_steps}
use Rattle.fit_step.proofs.undone.before.Goals as goal

pub returns-in_default-phase : goal.returns-in_default-phase
returns-in_default-phase g c = grind (arith, common_steps)
