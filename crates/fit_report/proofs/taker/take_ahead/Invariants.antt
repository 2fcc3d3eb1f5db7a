use Rattle.fit_report.proofs.Common.{◌≡◌, ◌-◌, length}
use Rattle.fit_report.specs.inner.Taking.{TakesAhead}
use Rattle.fit_report.proofs.taker.take_ahead.Given as goal

abbrev pub invariant-messages : goal.invariant-messages
invariant-messages g l = record {
  is : l.ahead ≡ record { fed = l.decoder; piece = l.piece; used = l.ahead.used };
  takes : TakesAhead g.T.MessageTaker.has_heard g.T.MessageTaker.line l.decoder l.piece l.initial.taker l.taker l.initial.text.items l.text.items l.ahead.used;
}

abbrev pub decreases-messages : goal.decreases-messages
decreases-messages g l = length l.piece - l.ahead.used
