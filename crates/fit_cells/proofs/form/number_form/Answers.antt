use Rattle.fit_cells.proofs.Common.{rules}
use Rattle.fit_cells.proofs.form.number_form.Goals as goal

pub returns-in-Signed-clause-form : goal.returns-in-Signed-clause-form
returns-in-Signed-clause-form c = search rules
