use Rattle.fit_step.proofs.Common.{refl}
use Rattle.fit_step.specs.Machine.{definition_move}
use Rattle.fit_step.proofs.definition.at_global_second.Goals as goal

pub returns : goal.returns
unfolding definition_move
returns g c = λ tests. rw c.global_of-definition.ensures refl
