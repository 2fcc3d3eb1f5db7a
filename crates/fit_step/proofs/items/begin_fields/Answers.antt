use Rattle.fit_step.proofs.Common.{◌∙◌, sym, ap, layout, dev_layout, next_with_bytes, drop}
use Rattle.fit_step.proofs.TwoLists.{field_begun, field_found}
use Rattle.fit_step.proofs.items.begin_fields.Goals as goal

pub returns-in-Some : goal.returns-in-Some
returns-in-Some g c = λ room v.
    let d = c.args.defined.now in
    field_found room v c.args.from (drop c.args.from (layout d)) (dev_layout d)
    ∙ ap (field_begun room v (dev_layout d))
    (sym (sym c.in-Some.is ∙ c.field_from.ensures ∙ ap (λ l. next_with_bytes c.args.from (drop c.args.from l)) c.layout.ensures.shapes))

pub returns-in-None : goal.returns-in-None
returns-in-None g c = λ room v.
    let d = c.args.defined.now in
    field_found room v c.args.from (drop c.args.from (layout d)) (dev_layout d)
    ∙ ap (field_begun room v (dev_layout d))
    (sym (sym c.in-None.is ∙ c.field_from.ensures ∙ ap (λ l. next_with_bytes c.args.from (drop c.args.from l)) c.layout.ensures.shapes))
    ∙ c.begin_dev.ensures room v
