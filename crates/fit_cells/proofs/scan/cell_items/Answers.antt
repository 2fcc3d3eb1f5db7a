use Rattle.std.proofs.Common.{rules}
use Rattle.fit_cells.proofs.scan.cell_items.Goals as goal

pub returns-clause-some : goal.returns-clause-some
returns-clause-some c = search rules

pub returns-clause-every : goal.returns-clause-every
returns-clause-every c = search rules
