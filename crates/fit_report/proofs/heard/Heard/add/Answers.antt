use Rattle.std.proofs.lemmas.Grind.{common_steps}
use Rattle.fit_report.proofs.Common.{arith}
use Rattle.fit_report.proofs.heard.Heard.add.Goals as goal

pub returns : goal.returns
returns c = grind (arith, common_steps)
