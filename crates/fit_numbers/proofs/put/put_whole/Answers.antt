use Rattle.std.proofs.Common.{rules}
use Rattle.fit_numbers.proofs.put.put_whole.Goals as goal

pub returns-else-n-lt10000-clause-ok : goal.returns-else-n-lt10000-clause-ok
returns-else-n-lt10000-clause-ok c = search rules
