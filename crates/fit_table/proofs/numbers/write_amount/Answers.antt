use Rattle.std.proofs.Common.{rules}
use Rattle.fit_table.proofs.numbers.write_amount.Goals as goal

pub returns-in-Ok-clause-text : goal.returns-in-Ok-clause-text
returns-in-Ok-clause-text c = search rules
