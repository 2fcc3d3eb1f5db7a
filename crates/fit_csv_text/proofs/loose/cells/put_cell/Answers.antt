use Rattle.std.proofs.Common.{arith}
use Rattle.std.proofs.lemmas.Grind.{common_steps}
use Rattle.fit_csv_text.proofs.loose.cells.put_cell.Goals as goal

pub returns-clause-place : goal.returns-clause-place
returns-clause-place c = cc

pub returns-clause-put : goal.returns-clause-put
returns-clause-put c = grind (arith, common_steps)
