use Rattle.fit_profile.proofs.Common.{refl}
use Rattle.fit_profile.proofs.message.Message.global.Goals as goal

pub returns : goal.returns
returns g c = refl
