use Rattle.fit_sum.proofs.RegisterOfAdded.{IsSumOf-none}
use Rattle.fit_sum.proofs.sum.Sum.clear.Goals as goal

pub invariant_of-self : goal.invariant_of-self
invariant_of-self c = rw c.new-self-inside.ensures IsSumOf-none
