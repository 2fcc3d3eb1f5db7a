use Rattle.fit_profile.proofs.Common.{refl}
use Rattle.fit_profile.proofs.message.Message.header_time.Goals as goal

pub returns : goal.returns
returns g c = refl
