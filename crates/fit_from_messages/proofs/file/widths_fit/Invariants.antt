use Rattle.std.proofs.Common.{◌≡◌, drop}
use Rattle.fit_from_messages.specs.inner.Cutting.{widths_fit}
use Rattle.fit_from_messages.proofs.file.widths_fit.Given as goal

-- the others decide
abbrev pub invariant-loop-n : goal.invariant-loop-n
invariant-loop-n l = widths_fit l.layout l.slots ≡ widths_fit (drop l.n l.layout) (drop l.n l.slots)
