use Rattle.fit_numbers.proofs.Common.{refl}
use Rattle.fit_numbers.proofs.scaled.nearest_degrees.Goals as goal

pub returns : goal.returns
returns c = refl
