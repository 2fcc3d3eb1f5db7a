use Rattle.std.proofs.Common.{length}
use Rattle.fit_from_messages.specs.inner.Chains.{HasSaid}
use Rattle.fit_from_messages.proofs.from.take_all.Given as goal

abbrev pub invariant-loop-rest : goal.invariant-loop-rest
invariant-loop-rest l = HasSaid l.blocks l.rest l.number l.chain

abbrev pub decreases-loop-rest : goal.decreases-loop-rest
decreases-loop-rest l = length l.rest
