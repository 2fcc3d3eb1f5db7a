use Rattle.fit_step.proofs.TakenAndRefusedBytes.{records_end}
use Rattle.fit_step.proofs.laws.records_end.Goals as goal

pub returns : goal.returns
returns g c = records_end
