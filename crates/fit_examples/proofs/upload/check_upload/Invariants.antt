use Rattle.fit_examples.proofs.Common.{length, Feeds}
use Rattle.fit_examples.proofs.upload.check_upload.Given as goal

abbrev pub invariant-loop-rest : goal.invariant-loop-rest
invariant-loop-rest l = Feeds l.upload l.decoder l.rest

abbrev pub decreases-loop-rest : goal.decreases-loop-rest
decreases-loop-rest l = length l.rest
