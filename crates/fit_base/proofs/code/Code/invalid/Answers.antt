use Rattle.fit_base.proofs.Common.{rules}
use Rattle.fit_base.proofs.code.Code.invalid.Goals as goal

pub returns-in_default : goal.returns-in_default
returns-in_default c = search rules
