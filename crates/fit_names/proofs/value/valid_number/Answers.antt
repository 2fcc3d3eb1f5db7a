use Rattle.std.proofs.Common.{rules}
use Rattle.fit_names.proofs.value.valid_number.Goals as goal

pub returns-in-131-clause-number : goal.returns-in-131-clause-number
returns-in-131-clause-number c = search rules
