use Rattle.fit_cells.proofs.Common.{rules}
use Rattle.fit_cells.proofs.writer.renew.Goals as goal

pub returns-else-len-gt-LONG-clause-between : goal.returns-else-len-gt-LONG-clause-between
returns-else-len-gt-LONG-clause-between c = search rules
