use Rattle.std.proofs.Common.{◌+◌, arith, refl}
use Rattle.fit_csv_text.proofs.PlainTexts.{feed-after, feed-place}
use Rattle.fit_csv_text.proofs.window.ends_in_return.Goals as goal

pub returns-then-b-eq10 : goal.returns-then-b-eq10
returns-then-b-eq10 c plain ends =
    let place = feed-place c.args.text.now c.loop-place.place ends c.if-b-eq10.true c.loop-place.invariant.no_feed in
    absurd (c.loop-place.invariant.no_return ends.place (omega (arith, place)) ends.after)

pub returns-then-place-text : goal.returns-then-place-text
returns-then-place-text c plain ends = rw (feed-after c.args.text.now c.loop-place.place plain c.if-b-eq13.true).1 refl

pub returns-else-place-text : goal.returns-else-place-text
returns-else-place-text c plain ends =
    let h = feed-after c.args.text.now c.loop-place.place plain c.if-b-eq13.true in absurd (omega (arith, h.0, c.if-place-text.false))

pub returns : goal.returns
returns c plain ends = absurd (c.loop-place.invariant.no_feed (ends.place + 1) (omega (arith, ends.within, c.loop-place-test.false)) ends.feed)
