use Rattle.std.proofs.Common.{rules}
use Rattle.fit_run.proofs.lines.put_numbered.Goals as goal

pub returns : goal.returns
returns c = search rules
