use Rattle.fit_report.proofs.Common.{◌≡◌, ℕ, ◌-◌, ◌≤◌, List, Option, length, false, Global, chain_limit, IsViable, fed, Stands}
use Rattle.fit_report.proofs.telling.tell_piece.Given as goal

abbrev pub invariant-loop-at : goal.invariant-loop-at
invariant-loop-at g l = record {
  within : l.at ≤ length l.piece;
  is_fed : l.decoder ≡ fed l.initial.decoder l.piece l.at;
  stands : (told : List ℕ) (start : Option (List ℕ))
      → Stands g.R.Report.has_heard g.R.Report.line l.initial.reporter l.initial.decoder.bytes told start (g.K.Sink.contents l.initial.sink) l.initial.written
      → Stands g.R.Report.has_heard g.R.Report.line l.reporter l.decoder.bytes told start (g.K.Sink.contents l.sink) l.written;
  works : g.K.Sink.has_failed l.initial.sink ≡ false → g.K.Sink.has_failed l.sink ≡ false;
  viable : IsViable Global chain_limit l.decoder.bytes;
}

abbrev pub decreases-loop-at : goal.decreases-loop-at
decreases-loop-at g l = length l.piece - l.at
