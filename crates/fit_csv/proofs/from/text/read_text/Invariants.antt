use Rattle.fit_csv.proofs.Common.{◌≤◌, ◌^◌, length, Consumes}
use Rattle.fit_csv.proofs.from.text.read_text.Given as goal

abbrev pub invariant-loop-count : goal.invariant-loop-count
invariant-loop-count g l = record {
  taken : Consumes (g.S.Source.remaining l.fn.source) (g.S.Source.remaining l.source) l.text.items;
  each : l.count ≤ length l.text.items;
  few : length l.text.items ≤ 2 ^ 62;
}
