use Rattle.fit_step.proofs.Common.{sym, ap, ◌∙◌, ◌+◌, body_length}
use Rattle.fit_step.specs.Tests.{entries_complete}
use Rattle.fit_step.proofs.sizes.entries_complete.Goals as goal

pub returns-in-None : goal.returns-in-None
returns-in-None g c =
    let d = c.args.definition.now in
    c.can_complete.ensures ∙ sym (ap (λ dev. entries_complete c.args.env.now dev d.local c.args.to_come (body_length d + c.args.size) c.args.room) c.in-None.is)

pub returns-in-Some : goal.returns-in-Some
returns-in-Some g c =
    let d = c.args.definition.now in
    c.can_complete_dev.ensures
    ∙ sym (ap (λ dev. entries_complete c.args.env.now dev d.local c.args.to_come (body_length d + c.args.size) c.args.room) c.in-Some.is)
