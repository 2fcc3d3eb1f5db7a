use Rattle.fit_examples.proofs.Common.{length, Feeds}
use Rattle.fit_examples.proofs.Noted.{Noted}
use Rattle.fit_examples.proofs.moments.heart_rates.Given as goal

abbrev pub invariant-loop-rest : goal.invariant-loop-rest
invariant-loop-rest l = Feeds l.ride l.decoder l.rest × Noted l.decoder.bytes l.stream l.moments.items

abbrev pub decreases-loop-rest : goal.decreases-loop-rest
decreases-loop-rest l = length l.rest
