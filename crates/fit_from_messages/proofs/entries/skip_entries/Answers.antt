use Rattle.std.proofs.Common.{◌≡◌, ◌+◌, ◌-◌, ◌∙◌, suc, arith, rules}
use Rattle.fit_from_messages.proofs.CutEntries.{left_more, stand_more, stand_not, too_short}
use Rattle.fit_from_messages.proofs.entries.skip_entries.Goals as goal

pub returns-then-rest-lt2-clause-none : goal.returns-then-rest-lt2-clause-none
returns-then-rest-lt2-clause-none c = λ _.
    c.loop.invariant.stand ∙ too_short c.args.developer (c.args.count - c.loop.counter) (c.args.count - (c.loop.counter + 1)) c.loop.rest.now
    (omega (arith, c.loop-test.true)) (omega (arith, c.if-rest-lt2.true))

pub returns-then-not-entry_stands-clause-none : goal.returns-then-not-entry_stands-clause-none
returns-then-not-entry_stands-clause-none c = λ _.
    c.loop.invariant.stand ∙ stand_not c.args.developer (c.args.count - c.loop.counter) (c.args.count - (c.loop.counter + 1)) c.loop.rest.now
    c.split_entry.result.0.now (omega (arith, c.loop-test.true)) c.split_entry.ensures.entry (search rules)

pub loop-preserved : goal.loop-preserved
loop-preserved c =
    let more : c.args.count - c.loop.counter ≡ suc (c.args.count - (c.loop.counter + 1)) = omega (arith, c.loop-test.true) in record {
      stand = c.loop.invariant.stand ∙ stand_more c.args.developer (c.args.count - c.loop.counter) (c.args.count - (c.loop.counter + 1)) c.loop.rest.now
          c.split_entry.result.0.now c.split_entry.result.1.now more c.split_entry.ensures.entry c.split_entry.ensures.rest (search rules);
      rest = c.loop.invariant.rest ∙ left_more (c.args.count - c.loop.counter) (c.args.count - (c.loop.counter + 1)) c.loop.rest.now
          c.split_entry.result.1.now more c.split_entry.ensures.rest;
    }
