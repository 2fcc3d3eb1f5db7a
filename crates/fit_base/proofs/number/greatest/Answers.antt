use Rattle.fit_base.proofs.Common.{rules}
use Rattle.fit_base.proofs.number.greatest.Goals as goal

pub returns : goal.returns
returns c = search rules
