use Rattle.fit_step.proofs.Common.{◌∙◌, sym, ap, Some}
use Rattle.fit_step.proofs.TwoLists.{passed_by, next_at}
use Rattle.fit_step.proofs.items.field_from.Goals as goal

pub loop-place-preserved : goal.loop-place-preserved
loop-place-preserved c =
    c.loop-place.invariant ∙ passed_by c.args.layout.now c.loop-place.place c.shape-code.result c.shape-code.ensures c.if-size-gt0.false

pub returns-then-size-gt0 : goal.returns-then-size-gt0
returns-then-size-gt0 c =
    let f = c.shape-code.result in
    sym (c.loop-place.invariant ∙ next_at c.args.layout.now c.loop-place.place f c.shape-code.ensures c.if-size-gt0.true
    ∙ ap (λ w. Some (c.loop-place.place, w, f.1)) (sym c.width_of.ensures))
