use Rattle.std.proofs.lemmas.Grind.{common_steps}
use Rattle.fit_profile.proofs.Common.{arith}
use Rattle.fit_profile.proofs.text.text_len.Goals as goal

pub loop-place-preserved : goal.loop-place-preserved
loop-place-preserved c = grind (arith, common_steps)
