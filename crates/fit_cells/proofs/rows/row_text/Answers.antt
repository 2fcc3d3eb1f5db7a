use Rattle.fit_cells.proofs.Common.{rules}
use Rattle.fit_cells.proofs.rows.row_text.Goals as goal

pub returns : goal.returns
returns c = search rules
