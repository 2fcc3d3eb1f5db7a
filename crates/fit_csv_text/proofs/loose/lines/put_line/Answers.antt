use Rattle.std.proofs.Common.{◌-◌, arith, length, take}
use Rattle.fit_csv_text.specs.inner.Loose.{is_mark}
use Rattle.fit_csv_text.proofs.Lanes.{more-before, put-more}
use Rattle.fit_csv_text.proofs.loose.lines.put_line.Goals as goal

pub returns-then-found-lt-LANES-clause-none : goal.returns-then-found-lt-LANES-clause-none
returns-then-found-lt-LANES-clause-none c =
    let text = c.args.text.now in
    let shown = c.loop.shown in
    more-before is_mark text shown (length text - shown) c.before_mark-found.result
    (omega (arith, c.loop.invariant.place, c.loop-test.true, c.requires.long, c.before_mark-found.ensures.within))
    c.before_mark-found.ensures.none c.loop.invariant.none

pub returns-then-found-lt-LANES-clause-put : goal.returns-then-found-lt-LANES-clause-put
returns-then-found-lt-LANES-clause-put c =
    let text = c.args.text.now in
    let shown = c.loop.shown in
    put-more (take c.args.at c.args.sheet.now) c.loop.sheet c.put_lanes.new.sheet text c.args.at shown c.before_mark-found.result (length text - shown)
    c.before_mark-found.ensures.within (omega (arith, c.loop.invariant.place, c.loop-test.true, c.requires.long))
    (omega (arith, c.loop.invariant.place, c.loop-test.true, c.requires.long)) c.loop.invariant.put c.put_lanes.ensures

pub loop-preserved : goal.loop-preserved
loop-preserved c =
    let text = c.args.text.now in
    let shown = c.loop.shown in record {
      place = omega (arith, c.loop.invariant.place);
      none = more-before is_mark text shown (length text - shown) 16 (omega (arith, c.loop.invariant.place, c.loop-test.true, c.requires.long))
          (λ k low. c.before_mark-found.ensures.none k (omega (arith, c.if-found-lt-LANES.false))) c.loop.invariant.none;
      put = put-more (take c.args.at c.args.sheet.now) c.loop.sheet c.put_lanes.new.sheet text c.args.at shown 16 (length text - shown) (omega arith)
          (omega (arith, c.loop.invariant.place, c.loop-test.true, c.requires.long))
          (omega (arith, c.loop.invariant.place, c.loop-test.true, c.requires.long)) c.loop.invariant.put c.put_lanes.ensures;
    }
