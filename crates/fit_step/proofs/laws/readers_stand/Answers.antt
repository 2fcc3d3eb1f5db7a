use Rattle.fit_step.proofs.Kept.{beginnings_stand}
use Rattle.fit_step.proofs.TakenAndRefusedBytes.{taken_bytes_stand}
use Rattle.fit_step.proofs.laws.readers_stand.Goals as goal

pub returns-clause-begin : goal.returns-clause-begin
returns-clause-begin g c = beginnings_stand

pub returns-clause-go_on : goal.returns-clause-go_on
returns-clause-go_on g c = taken_bytes_stand
