use Rattle.fit_profile.proofs.Common.{rules}
use Rattle.fit_profile.proofs.message.Message.value.Goals as goal

pub returns-clause-value : goal.returns-clause-value
returns-clause-value g c = search rules
