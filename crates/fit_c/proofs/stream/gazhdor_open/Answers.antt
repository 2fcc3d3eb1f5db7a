use Rattle.std.proofs.Common.{rules}
use Rattle.fit_c.proofs.stream.gazhdor_open.Goals as goal

pub returns-in-None-made-clause-opened : goal.returns-in-None-made-clause-opened
returns-in-None-made-clause-opened c = search rules
