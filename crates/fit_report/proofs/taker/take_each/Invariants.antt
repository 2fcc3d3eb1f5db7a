use Rattle.fit_report.proofs.Common.{◌-◌, length, Global, chain_limit, IsViable, Skips}
use Rattle.fit_report.proofs.taker.take_each.Given as goal

abbrev pub invariant-messages : goal.invariant-messages
invariant-messages g l = record {
  skips : Skips g.T.MessageTaker.has_heard g.T.MessageTaker.line l.initial.decoder l.decoder l.piece l.initial.taker l.taker l.initial.text.items
      l.text.items l.at;
  viable : IsViable Global chain_limit l.decoder.bytes;
}

abbrev pub decreases-messages : goal.decreases-messages
decreases-messages g l = length l.piece - l.at
