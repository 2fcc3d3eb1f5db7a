use Rattle.fit_csv.proofs.Common.{◌≤◌, ◌+◌}
use Rattle.fit_csv.specs.inner.Judging.{HasJudged}
use Rattle.fit_csv.proofs.from.judge.RowJudge.take_rest.Given as goal

abbrev pub invariant-loop : goal.invariant-loop
invariant-loop l = record {
  judged : HasJudged l.whole l.left l.self.chain l.self.rows;
  more : l.counter + 1 ≤ l.self.rows;
}
