use Rattle.std.proofs.Common.{rules}
use Rattle.fit_frame.proofs.spelling.joined.Goals as goal

pub returns : goal.returns
returns c = search rules
