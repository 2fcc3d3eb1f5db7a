use Rattle.fit_base.proofs.Common.{rules}
use Rattle.fit_base.proofs.code.Code.class.Goals as goal

pub returns-in-0 : goal.returns-in-0
returns-in-0 c = search rules
