use Rattle.fit_report.proofs.Common.{◌≡◌, ◌-◌, ℕ, List, Option, false, length}
use Rattle.fit_report.specs.inner.Passing.{HasComeTo}
use Rattle.fit_report.proofs.reporting.tell_pieces.Given as goal

abbrev pub invariant-pieces : goal.invariant-pieces
invariant-pieces g l = record {
  come : (begin start : Option (List ℕ)) → HasComeTo g.R.Report.has_heard g.R.Report.line l.initial.reporter l.initial.telling l.initial.place begin
      (g.S.Source.remaining l.initial.source) start (g.K.Sink.contents l.initial.sink)
      → HasComeTo g.R.Report.has_heard g.R.Report.line l.reporter l.telling l.place begin (g.S.Source.remaining l.source) start (g.K.Sink.contents l.sink);
  works : g.K.Sink.has_failed l.initial.sink ≡ false → g.K.Sink.has_failed l.sink ≡ false;
  same : length l.buffer ≡ length l.initial.buffer;
}

abbrev pub decreases-pieces : goal.decreases-pieces
decreases-pieces g l = 144115188075855872 - l.place
