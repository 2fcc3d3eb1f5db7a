use Rattle.fit_cells.proofs.Common.{rules}
use Rattle.fit_cells.proofs.rows.rows_text.Goals as goal

pub returns-in-Ok : goal.returns-in-Ok
returns-in-Ok c = search rules
