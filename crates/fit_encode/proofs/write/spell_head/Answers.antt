use Rattle.fit_encode.proofs.Common.{rules}
use Rattle.fit_encode.proofs.write.spell_head.Goals as goal

pub returns : goal.returns
returns g c = search rules
