use Rattle.fit_base.proofs.Common.{arith}
use Rattle.std.proofs.lemmas.Grind.{common_steps}
use Rattle.fit_base.proofs.number.put_bits.Goals as goal

pub returns-in-Big : goal.returns-in-Big
returns-in-Big c = grind (arith, common_steps)
