use Rattle.std.proofs.Common.{rules}
use Rattle.fit_table.proofs.front.RowFront.is_of.Goals as goal

pub returns-then-self-file : goal.returns-then-self-file
returns-then-self-file c = search rules
