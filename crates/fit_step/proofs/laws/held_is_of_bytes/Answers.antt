use Rattle.fit_step.proofs.HeldInProgress.{held_is_of_bytes, held_is_limited}
use Rattle.fit_step.proofs.laws.held_is_of_bytes.Goals as goal

pub returns-clause-held : goal.returns-clause-held
returns-clause-held g c = held_is_of_bytes

pub returns-clause-limited : goal.returns-clause-limited
returns-clause-limited g c = held_is_limited
