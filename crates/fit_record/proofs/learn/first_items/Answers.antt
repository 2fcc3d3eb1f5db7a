use Rattle.fit_record.proofs.Common.{◌∙◌, sym, ap, drop, drop_all, ne_eqb, slice_get-get_or, first_items}
use Rattle.fit_record.proofs.FirstOfNumber.{after_other}
use Rattle.fit_record.proofs.learn.first_items.Goals as goal

pub loop-place-preserved : goal.loop-place-preserved
loop-place-preserved g c =
    c.loop-place.invariant
    ∙ after_other c.loop-place.place c.args.fields.now c.args.items.now c.args.number _
    (slice_get-get_or c.args.fields.now c.loop-place.place (record { number = 0; size = 0; code = 0 }) c.loop-place-test.true) (ne_eqb _ _ c.if-f-number.false)

pub returns : goal.returns
returns g c =
    sym (c.loop-place.invariant ∙ ap (λ fs. first_items fs (drop c.loop-place.place c.args.items.now) c.args.number)
    (drop_all c.loop-place.place c.args.fields.now c.loop-place-test.false))
