use Rattle.fit_step.proofs.Common.{◌∙◌, sym, ap, dev_layout, next_with_bytes, drop}
use Rattle.fit_step.proofs.TwoLists.{dev_begun, dev_found}
use Rattle.fit_step.proofs.items.begin_dev.Goals as goal

pub returns-in-Some : goal.returns-in-Some
returns-in-Some g c = λ room v.
    dev_found room v c.args.from (drop c.args.from (dev_layout c.args.defined.now))
    ∙ ap (dev_begun room v)
    (sym (sym c.in-Some.is ∙ c.field_from.ensures ∙ ap (λ l. next_with_bytes c.args.from (drop c.args.from l)) c.dev_layout.ensures.shapes))

pub returns-in-None : goal.returns-in-None
returns-in-None g c = λ room v.
    dev_found room v c.args.from (drop c.args.from (dev_layout c.args.defined.now))
    ∙ ap (dev_begun room v)
    (sym (sym c.in-None.is ∙ c.field_from.ensures ∙ ap (λ l. next_with_bytes c.args.from (drop c.args.from l)) c.dev_layout.ensures.shapes))
