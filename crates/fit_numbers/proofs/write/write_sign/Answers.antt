use Rattle.std.proofs.Common.{rules}
use Rattle.fit_numbers.proofs.write.write_sign.Goals as goal

pub returns-else-value-lt0-clause-text : goal.returns-else-value-lt0-clause-text
returns-else-value-lt0-clause-text c = search rules
