use Rattle.std.proofs.Common.{rules}
use Rattle.fit_c.proofs.stream.gazhdor_close.Goals as goal

pub returns : goal.returns
returns c = search rules
