use Rattle.fit_report.proofs.Common.{◌-◌, length, Global, chain_limit, IsViable, Skips}
use Rattle.fit_report.proofs.telling.skip_all.Given as goal

abbrev pub invariant-skips : goal.invariant-skips
invariant-skips g l = record {
  skips : Skips g.R.Report.has_heard g.R.Report.line l.initial.decoder l.decoder l.piece l.initial.reporter l.reporter l.initial.text.items l.text.items l.at;
  viable : IsViable Global chain_limit l.decoder.bytes;
}

abbrev pub decreases-skips : goal.decreases-skips
decreases-skips g l = length l.piece - l.at
