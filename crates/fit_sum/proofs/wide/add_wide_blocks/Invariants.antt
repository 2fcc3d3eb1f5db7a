use Rattle.fit_sum.proofs.Common.{take, concat, AllPairs}
use Rattle.fit_sum.proofs.BlocksOfWords.{Keeps}
use Rattle.fit_sum.proofs.wide.add_wide_blocks.Given as goal

abbrev pub invariant-loop-block : goal.invariant-loop-block
invariant-loop-block l = AllPairs l.words × Keeps 32 l.register (concat (take l.block-index l.front)) (concat l.words)
