use Rattle.fit_profile.proofs.Common.{◌∙◌, ap, Defined, MessageDef, defined_at}
use Rattle.std.specs.Global.{Global}
use Rattle.fit_record.specs.Faults.{or_else}
use Rattle.fit_profile.specs.Times.{field_time, header_time}
use Rattle.fit_profile.proofs.Kept.{through, through-none}
use Rattle.fit_profile.proofs.by_plan.time_of_values.Goals as goal

pub returns-in-Some : goal.returns-in-Some
returns-in-Some c =
    c.time_by.ensures
    ∙ ap (λ t. or_else t (header_time c.args.previous c.args.values.now.offset)) (through (λ (p : Defined Global). p.definition)
    (λ (d : MessageDef Global). field_time d c.args.values.now)
    (defined_at c.args.env.now c.args.values.now.local) c.in-Some.definition.now c.in-Some.ensures.definition)

pub returns-in-None : goal.returns-in-None
returns-in-None c =
    c.header_time.ensures
    ∙ ap (λ t. or_else t (header_time c.args.previous c.args.values.now.offset)) (through-none (λ (p : Defined Global). p.definition)
    (λ (d : MessageDef Global). field_time d c.args.values.now)
    (defined_at c.args.env.now c.args.values.now.local) c.in-None.ensures.definition)
