use Rattle.fit_writer.proofs.HeardChains.{what_is_said_was_told}
use Rattle.fit_writer.proofs.laws.what_is_said_was_told.Goals as goal

pub returns : goal.returns
returns c = what_is_said_was_told
