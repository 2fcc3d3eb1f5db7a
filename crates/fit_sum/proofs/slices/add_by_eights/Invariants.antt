use Rattle.fit_sum.proofs.Common.{◌≡◌, take, concat, run}
use Rattle.fit_sum.proofs.slices.add_by_eights.Given as goal

abbrev pub invariant-loop-eight : goal.invariant-loop-eight
invariant-loop-eight l = l.sum ≡ run l.register (concat (take l.eight-index l.whole))
