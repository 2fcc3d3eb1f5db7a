use Rattle.std.proofs.Common.{rules}
use Rattle.fit_table.proofs.kinds.Kind.of.Goals as goal

pub returns-then-is_same : goal.returns-then-is_same
returns-then-is_same c = search rules
