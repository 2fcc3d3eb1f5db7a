use Rattle.fit_profile.proofs.Common.{rules}
use Rattle.fit_profile.proofs.message.Message.accumulated_power.Goals as goal

pub returns-clause-amount : goal.returns-clause-amount
returns-clause-amount g c = search rules
