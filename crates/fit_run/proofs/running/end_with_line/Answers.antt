use Rattle.std.proofs.Common.{rules}
use Rattle.fit_run.proofs.running.end_with_line.Goals as goal

pub returns-in-Ok-clause-writes : goal.returns-in-Ok-clause-writes
returns-in-Ok-clause-writes g c = search rules

pub returns-in-Ok-clause-works : goal.returns-in-Ok-clause-works
returns-in-Ok-clause-works g c = search rules
