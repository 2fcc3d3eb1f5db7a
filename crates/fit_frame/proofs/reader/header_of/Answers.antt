use Rattle.fit_frame.proofs.Common.{arith}
use Rattle.std.proofs.lemmas.Grind.{common_steps}
use Rattle.fit_frame.proofs.reader.header_of.Goals as goal

pub returns : goal.returns
returns c = grind (arith, common_steps)
