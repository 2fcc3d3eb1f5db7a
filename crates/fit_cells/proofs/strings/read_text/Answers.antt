use Rattle.fit_cells.proofs.Common.{arith}
use Rattle.fit_cells.proofs.strings.read_text.Goals as goal

pub returns-clause-value : goal.returns-clause-value
returns-clause-value c k below = c.loop-place.invariant.value k (omega (arith, c.loop-place-test.false, below))

pub returns-clause-below : goal.returns-clause-below
returns-clause-below c = c.loop-place.invariant.below
