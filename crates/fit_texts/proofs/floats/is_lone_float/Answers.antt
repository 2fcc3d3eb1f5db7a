use Rattle.std.proofs.Common.{rules}
use Rattle.fit_texts.proofs.floats.is_lone_float.Goals as goal

pub returns-then-eq-clause-width : goal.returns-then-eq-clause-width
returns-then-eq-clause-width c = search rules
