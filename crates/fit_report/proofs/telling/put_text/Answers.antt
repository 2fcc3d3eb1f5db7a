use Rattle.std.proofs.lemmas.Grind.{common_steps}
use Rattle.fit_report.proofs.Common.{arith}
use Rattle.std.proofs.Common.{rules}
use Rattle.fit_report.proofs.telling.put_text.Goals as goal

pub returns-in-Ok-clause-puts : goal.returns-in-Ok-clause-puts
returns-in-Ok-clause-puts g c = search rules

pub returns-in-Ok-clause-works : goal.returns-in-Ok-clause-works
returns-in-Ok-clause-works g c = grind (arith, common_steps)
