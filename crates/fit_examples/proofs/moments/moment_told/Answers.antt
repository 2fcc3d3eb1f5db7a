use Rattle.fit_examples.proofs.Common.{subst, AreHeard, hear}
use Rattle.fit_examples.proofs.Noted.{heard_fits}
use Rattle.fit_examples.proofs.moments.moment_told.Goals as goal

pub push-requires : goal.push-requires
push-requires c =
    heard_fits c.heard_records_fit.ensures c.looking_back_is_learning.ensures c.requires.0 c.args.stream.now c.in-Item.record_ c.requires.1
    (subst (λ event. AreHeard (hear event c.requires.0)) c.in-Item.is c.requires.2)
