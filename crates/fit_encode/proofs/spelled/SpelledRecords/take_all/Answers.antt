use Rattle.fit_encode.proofs.Common.{rules}
use Rattle.fit_encode.proofs.spelled.SpelledRecords.take_all.Goals as goal

pub invariant_of-self : goal.invariant_of-self
invariant_of-self c = search rules
