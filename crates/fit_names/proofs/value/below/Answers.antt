use Rattle.std.proofs.Common.{rules}
use Rattle.fit_names.proofs.value.below.Goals as goal

pub returns-then-bits-greatest-clause-number : goal.returns-then-bits-greatest-clause-number
returns-then-bits-greatest-clause-number c = search rules
