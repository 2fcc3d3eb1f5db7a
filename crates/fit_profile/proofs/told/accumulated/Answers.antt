use Rattle.fit_profile.proofs.Common.{rules}
use Rattle.fit_profile.proofs.told.accumulated.Goals as goal

pub returns : goal.returns
returns c = search rules
