use Rattle.fit_csv.proofs.Common.{subst, DevDefInRange}
use Rattle.std.specs.List.{All}
use Rattle.std.proofs.lemmas.List.{take_all}
use Rattle.std.proofs.lemmas.List.Elements.{All-more}
use Rattle.fit_csv.proofs.from.ranges.are_dev_in_range.Goals as goal

pub loop-field-preserved : goal.loop-field-preserved
loop-field-preserved c =
    All-more DevDefInRange c.args.fields.now c.loop-field.field-index (record { number = 0; size = 0; index = 0 }) c.loop-field-test.true
    c.loop-field.invariant c.dev_in_range.ensures

pub returns : goal.returns
returns c = subst (All DevDefInRange) (take_all c.loop-field.field-index c.args.fields.now c.loop-field-test.false) c.loop-field.invariant
