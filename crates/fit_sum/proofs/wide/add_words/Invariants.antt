use Rattle.fit_sum.proofs.Common.{◌≡◌, take, concat, run, spelled}
use Rattle.fit_sum.proofs.wide.add_words.Given as goal

abbrev pub invariant-loop-word : goal.invariant-loop-word
invariant-loop-word l = l.sum ≡ run 0 (spelled (concat (take l.word-index l.words)))
