use Rattle.std.proofs.Common.{rules}
use Rattle.fit_numbers.proofs.decimal.Fixed.put.Goals as goal

pub returns-in-Ok-clause-ok : goal.returns-in-Ok-clause-ok
returns-in-Ok-clause-ok c = search rules
