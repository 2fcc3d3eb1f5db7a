use Rattle.std.proofs.Common.{rules}
use Rattle.fit_run.proofs.command_line.fault_of.Goals as goal

pub returns : goal.returns
returns c = search rules
