use Rattle.std.proofs.Common.{rules}
use Rattle.fit_run.proofs.lines.bad_cell.Goals as goal

pub returns : goal.returns
returns c = search rules
