use Rattle.fit_step.proofs.TakenAndRefusedBytes.{parts_are_tested}
use Rattle.fit_step.proofs.laws.parts_are_tested.Goals as goal

pub returns : goal.returns
returns g c = parts_are_tested
