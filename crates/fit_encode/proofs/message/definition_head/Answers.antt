use Rattle.fit_encode.proofs.Common.{rules}
use Rattle.fit_encode.proofs.message.definition_head.Goals as goal

pub returns : goal.returns
returns g c = search rules
