use Rattle.std.proofs.Common.{rules}
use Rattle.fit_numbers.proofs.scaled.factor_of.Goals as goal

pub returns-in-16-clause-value : goal.returns-in-16-clause-value
returns-in-16-clause-value c = search rules

pub returns-in-16-clause-known : goal.returns-in-16-clause-known
returns-in-16-clause-known c = search rules
