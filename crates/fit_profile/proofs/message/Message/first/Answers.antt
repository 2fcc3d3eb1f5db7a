use Rattle.fit_profile.proofs.Common.{rules}
use Rattle.fit_profile.proofs.message.Message.first.Goals as goal

pub returns : goal.returns
returns g c = search rules
