use Rattle.std.proofs.Common.{rules}
use Rattle.fit_rows.proofs.whole.after_definition.Goals as goal

pub returns-clause-fits : goal.returns-clause-fits
returns-clause-fits c = search rules
