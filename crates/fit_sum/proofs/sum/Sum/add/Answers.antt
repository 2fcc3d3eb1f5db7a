use Rattle.fit_sum.proofs.Common.{rules}
use Rattle.fit_sum.proofs.sum.Sum.add.Goals as goal

pub returns : goal.returns
returns c = search rules
