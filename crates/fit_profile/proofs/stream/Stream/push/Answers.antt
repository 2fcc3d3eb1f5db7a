use Rattle.fit_profile.proofs.Common.{rules}
use Rattle.fit_profile.proofs.stream.Stream.push.Goals as goal

pub returns-in-Some : goal.returns-in-Some
returns-in-Some c = search rules
