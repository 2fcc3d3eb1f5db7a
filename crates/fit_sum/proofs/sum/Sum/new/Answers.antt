use Rattle.fit_sum.proofs.RegisterOfAdded.{IsSumOf-none}
use Rattle.fit_sum.proofs.sum.Sum.new.Goals as goal

pub invariant_of-result : goal.invariant_of-result
invariant_of-result c = rw c.new.ensures IsSumOf-none
