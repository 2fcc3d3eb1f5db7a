use Rattle.fit_decode.proofs.Common.{arith}
use Rattle.std.proofs.lemmas.Grind.{common_steps}
use Rattle.fit_decode.proofs.source.CutSource.new.Goals as goal

pub returns : goal.returns
returns c = grind (arith, common_steps)
