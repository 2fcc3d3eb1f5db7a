use Rattle.fit_step.proofs.Common.{rules}
use Rattle.fit_step.proofs.read_definition.global_of.Goals as goal

pub returns-in-Big : goal.returns-in-Big
returns-in-Big c = search rules
