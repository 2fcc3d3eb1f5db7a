use Rattle.std.proofs.lemmas.Grind.{common_steps}
use Rattle.fit_numbers.proofs.Common.{arith}
use Rattle.fit_numbers.proofs.put.put_many.Goals as goal

pub returns-clause-ok : goal.returns-clause-ok
returns-clause-ok c = grind (arith, common_steps)
