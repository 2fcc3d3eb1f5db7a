use Rattle.fit_profile.proofs.Common.{rules}
use Rattle.fit_profile.proofs.time.header_time.Goals as goal

pub returns : goal.returns
returns c = search rules
