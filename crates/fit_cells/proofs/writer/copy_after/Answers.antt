use Rattle.std.proofs.lemmas.Grind.{common_steps}
use Rattle.fit_cells.proofs.Common.{arith}
use Rattle.fit_cells.proofs.writer.copy_after.Goals as goal

pub returns-clause-text : goal.returns-clause-text
returns-clause-text c = grind (arith, common_steps)
