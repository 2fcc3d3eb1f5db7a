use Rattle.std.proofs.Common.{arith}
use Rattle.std.proofs.lemmas.Grind.{common_steps}
use Rattle.fit_numbers.proofs.scaled.degrees.Goals as goal

pub returns-then-semicircles-lt0-clause-value : goal.returns-then-semicircles-lt0-clause-value
returns-then-semicircles-lt0-clause-value c = grind (arith, common_steps)
