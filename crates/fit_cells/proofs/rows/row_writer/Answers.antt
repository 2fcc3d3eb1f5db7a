use Rattle.fit_cells.proofs.Common.{rules}
use Rattle.fit_cells.proofs.rows.row_writer.Goals as goal

pub returns-clause-between : goal.returns-clause-between
returns-clause-between c = search rules
