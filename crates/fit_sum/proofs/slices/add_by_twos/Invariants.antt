use Rattle.fit_sum.proofs.Common.{◌≡◌, take, concat, run}
use Rattle.fit_sum.proofs.slices.add_by_twos.Given as goal

abbrev pub invariant-loop-two : goal.invariant-loop-two
invariant-loop-two l = l.sum ≡ run l.register (concat (take l.two-index l.whole))
