use Rattle.std.proofs.Common.{rules}
use Rattle.fit_c.proofs.texts.handed_where.Goals as goal

pub returns-else-good-clause-nothing : goal.returns-else-good-clause-nothing
returns-else-good-clause-nothing c = search rules
