use Rattle.fit_base.proofs.Common.{rules}
use Rattle.fit_base.proofs.number.signed.Goals as goal

pub returns-in-2 : goal.returns-in-2
returns-in-2 c = search rules
