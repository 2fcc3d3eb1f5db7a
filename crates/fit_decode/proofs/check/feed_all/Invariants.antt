use Rattle.fit_decode.proofs.Common.{length}
use Rattle.fit_decode.proofs.Checking.{Feeds}
use Rattle.fit_decode.proofs.check.feed_all.Given as goal

abbrev pub invariant-loop-rest : goal.invariant-loop-rest
invariant-loop-rest l = Feeds l.bytes l.decoder l.rest

abbrev pub decreases-loop-rest : goal.decreases-loop-rest
decreases-loop-rest l = length l.rest
