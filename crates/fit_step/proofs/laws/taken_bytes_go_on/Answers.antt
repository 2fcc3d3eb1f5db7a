use Rattle.fit_step.proofs.TakenAndRefusedBytes.{taken_bytes_go_on, taken_bytes_end}
use Rattle.fit_step.proofs.laws.taken_bytes_go_on.Goals as goal

pub returns-clause-part : goal.returns-clause-part
returns-clause-part g c = taken_bytes_go_on

pub returns-clause-whole : goal.returns-clause-whole
returns-clause-whole g c = taken_bytes_end
