use Rattle.std.proofs.Common.{take}
use Rattle.fit_cells.proofs.KindFacts.{Seen}
use Rattle.fit_cells.proofs.shown.kinds_of.Given as goal

abbrev pub invariant-loop-byte : goal.invariant-loop-byte
invariant-loop-byte l = Seen l.kinds (take l.byte-index l.text)
