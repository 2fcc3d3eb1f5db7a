use Rattle.fit_cells.proofs.Common.{rules}
use Rattle.fit_cells.proofs.form.formed.Goals as goal

pub returns-clause-lone : goal.returns-clause-lone
returns-clause-lone c = search rules
