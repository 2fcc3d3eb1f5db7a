use Rattle.std.proofs.Common.{rules}
use Rattle.fit_names.proofs.value.in_scale.Goals as goal

pub returns-in-Some-clause-amount : goal.returns-in-Some-clause-amount
returns-in-Some-clause-amount c = search rules
