use Rattle.fit_table.proofs.DegreeFacts.{nearest-degrees}
use Rattle.fit_table.proofs.laws.degrees_are_nearest.Goals as goal

pub returns : goal.returns
returns c = nearest-degrees
