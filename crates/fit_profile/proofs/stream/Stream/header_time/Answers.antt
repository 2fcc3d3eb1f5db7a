use Rattle.fit_profile.proofs.Common.{rules}
use Rattle.fit_profile.proofs.stream.Stream.header_time.Goals as goal

pub returns : goal.returns
returns c = search rules
