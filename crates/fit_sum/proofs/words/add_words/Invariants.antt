use Rattle.fit_sum.proofs.Common.{◌≡◌, take, concat, run}
use Rattle.fit_sum.proofs.words.add_words.Given as goal

abbrev pub invariant-loop-eight : goal.invariant-loop-eight
invariant-loop-eight l = l.sum ≡ run 0 (concat (take l.eight-index l.eight-items))
