use Rattle.std.proofs.Common.{◌≡◌, drop}
use Rattle.std.specs.Prelude.{max}
use Rattle.fit_writer.specs.inner.Found.{least_length}
use Rattle.fit_writer.proofs.found.least_length.Given as goal

-- with the other slots it is that of all
abbrev pub invariant-loop-slot : goal.invariant-loop-slot
invariant-loop-slot l = max l.least (least_length (drop l.slot-index l.slots)) ≡ least_length l.slots
