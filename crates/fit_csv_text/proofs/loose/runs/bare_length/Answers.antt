use Rattle.std.proofs.Common.{◌-◌, arith, length}
use Rattle.fit_csv_text.specs.inner.Loose.{is_special}
use Rattle.fit_csv_text.proofs.Lanes.{more-before}
use Rattle.fit_csv_text.proofs.loose.runs.bare_length.Goals as goal

pub returns-then-found-lt-LANES-clause-bare : goal.returns-then-found-lt-LANES-clause-bare
returns-then-found-lt-LANES-clause-bare c = more-before is_special c.args.text.now c.loop.at (length c.args.text.now - c.loop.at) c.before_special-found.result
    (omega (arith, c.loop.invariant.place, c.loop-test.true, c.before_special-found.ensures.within)) c.before_special-found.ensures.bare c.loop.invariant.bare

pub loop-preserved : goal.loop-preserved
loop-preserved c = record {
  place = omega (arith, c.loop.invariant.place);
  bare = more-before is_special c.args.text.now c.loop.at (length c.args.text.now - c.loop.at) 16 (omega (arith, c.loop.invariant.place, c.loop-test.true))
      (λ k low. c.before_special-found.ensures.bare k (omega (arith, c.if-found-lt-LANES.false))) c.loop.invariant.bare;
}
