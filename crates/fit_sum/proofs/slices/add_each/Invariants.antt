use Rattle.fit_sum.proofs.Common.{◌≡◌, take, run}
use Rattle.fit_sum.proofs.slices.add_each.Given as goal

abbrev pub invariant-loop-byte : goal.invariant-loop-byte
invariant-loop-byte l = l.sum ≡ run l.register (take l.byte-index l.bytes)
