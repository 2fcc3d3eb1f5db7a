use Rattle.fit_encode.proofs.Kept.{none-kept}
use Rattle.fit_encode.proofs.spelled.SpelledRecords.new.Goals as goal

pub invariant_of-result : goal.invariant_of-result
invariant_of-result c = none-kept c.new.result.items c.new-2.result.items c.new.ensures.items c.new-2.ensures
