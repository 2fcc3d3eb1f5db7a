use Rattle.fit_cells.proofs.Common.{rules}
use Rattle.fit_cells.proofs.form.put_formed.Goals as goal

pub returns-clause-ok : goal.returns-clause-ok
returns-clause-ok c = search rules
