use Rattle.fit_step.proofs.Common.{arith}
use Rattle.std.proofs.lemmas.Grind.{common_steps}
use Rattle.fit_step.proofs.repeated.is_field.Goals as goal

pub returns : goal.returns
returns c = grind (arith, common_steps)
