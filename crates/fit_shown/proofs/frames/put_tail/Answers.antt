use Rattle.std.proofs.Common.{rules}
use Rattle.fit_shown.proofs.frames.put_tail.Goals as goal

pub returns : goal.returns
returns c = search rules
