use Rattle.std.proofs.Common.{rules}
use Rattle.fit_frame.proofs.spelling.has_size.Goals as goal

pub returns-in-Zero : goal.returns-in-Zero
returns-in-Zero c = search rules
