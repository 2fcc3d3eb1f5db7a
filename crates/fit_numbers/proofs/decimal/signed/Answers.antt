use Rattle.std.proofs.Common.{rules}
use Rattle.fit_numbers.proofs.decimal.signed.Goals as goal

pub returns-else-value-lt0-clause-bytes : goal.returns-else-value-lt0-clause-bytes
returns-else-value-lt0-clause-bytes c = search rules
