use Rattle.std.proofs.Common.{◌-◌, arith, length}
use Rattle.fit_csv_text.specs.inner.Loose.{is_mark}
use Rattle.fit_csv_text.proofs.Lanes.{more-before}
use Rattle.fit_csv_text.proofs.loose.runs.run_length.Goals as goal

pub returns-then-found-lt-LANES-clause-none : goal.returns-then-found-lt-LANES-clause-none
returns-then-found-lt-LANES-clause-none c = more-before is_mark c.args.text.now c.loop.at (length c.args.text.now - c.loop.at) c.before_mark-found.result
    (omega (arith, c.loop.invariant.place, c.loop-test.true, c.before_mark-found.ensures.within)) c.before_mark-found.ensures.none c.loop.invariant.none

pub loop-preserved : goal.loop-preserved
loop-preserved c = record {
  place = omega (arith, c.loop.invariant.place);
  none = more-before is_mark c.args.text.now c.loop.at (length c.args.text.now - c.loop.at) 16 (omega (arith, c.loop.invariant.place, c.loop-test.true))
      (λ k low. c.before_mark-found.ensures.none k (omega (arith, c.if-found-lt-LANES.false))) c.loop.invariant.none;
}
