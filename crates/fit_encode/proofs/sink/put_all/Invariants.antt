use Rattle.fit_encode.proofs.Common.{◌≡◌, ◌<◌, ◌≤◌, false, length, take, Appends}
use Rattle.std.proofs.Common.{◌-◌}
use Rattle.fit_encode.proofs.sink.put_all.Given as goal

abbrev pub invariant-loop-written : goal.invariant-loop-written
invariant-loop-written g l = record {
  within : l.written ≤ length l.bytes;
  appended : Appends (g.K.Sink.contents l.initial.sink) (g.K.Sink.contents l.sink) (take l.written l.bytes);
  works : 0 < l.written → g.K.Sink.has_failed l.sink ≡ false;
  none : l.written ≡ 0 → l.sink ≡ l.initial.sink;
}

abbrev pub decreases-loop-written : goal.decreases-loop-written
decreases-loop-written g l = length l.bytes - l.written
