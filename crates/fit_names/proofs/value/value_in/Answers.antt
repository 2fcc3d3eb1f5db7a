use Rattle.std.proofs.Common.{rules}
use Rattle.fit_names.proofs.value.value_in.Goals as goal

pub returns-clause-value : goal.returns-clause-value
returns-clause-value c = search rules
