use Rattle.fit_cells.proofs.Common.{rules}
use Rattle.fit_cells.proofs.form.formed_number.Goals as goal

pub returns-clause-text : goal.returns-clause-text
returns-clause-text c = search rules
