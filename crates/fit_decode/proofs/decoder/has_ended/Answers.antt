use Rattle.fit_decode.proofs.Common.{arith, rules}
use Rattle.std.proofs.lemmas.Grind.{common_steps}
use Rattle.fit_decode.proofs.decoder.has_ended.Goals as goal

pub returns-then-stage-gt0 : goal.returns-then-stage-gt0
returns-then-stage-gt0 c = grind (arith, common_steps)

pub returns-else-stage-gt0 : goal.returns-else-stage-gt0
returns-else-stage-gt0 c = search rules
