use Rattle.fit_sum.proofs.Common.{take, concat}
use Rattle.fit_sum.proofs.BlocksOfWords.{Keeps}
use Rattle.fit_sum.proofs.words.add_blocks.Given as goal

abbrev pub invariant-loop-block : goal.invariant-loop-block
invariant-loop-block l = Keeps 16 l.register (concat (take l.block-index l.front)) l.words
