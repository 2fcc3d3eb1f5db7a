use Rattle.std.proofs.Common.{rules}
use Rattle.fit_c.proofs.stream.gazhdor_finish.Goals as goal

pub returns-in-Some-clause-ends : goal.returns-in-Some-clause-ends
returns-in-Some-clause-ends c = search rules
