use Rattle.std.proofs.Common.{rules}
use Rattle.fit_numbers.proofs.write.write_fixed.Goals as goal

pub returns-in_default-clause-text : goal.returns-in_default-clause-text
returns-in_default-clause-text c = search rules
