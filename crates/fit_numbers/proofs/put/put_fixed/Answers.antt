use Rattle.std.proofs.Common.{rules}
use Rattle.fit_numbers.proofs.put.put_fixed.Goals as goal

pub returns-else-decimals-eq0-clause-ok : goal.returns-else-decimals-eq0-clause-ok
returns-else-decimals-eq0-clause-ok c = search rules
