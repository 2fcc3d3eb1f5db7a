use Rattle.fit_sum.proofs.Common.{rules}
use Rattle.fit_sum.proofs.sum.Sum.value.Goals as goal

pub returns : goal.returns
returns c = search rules
