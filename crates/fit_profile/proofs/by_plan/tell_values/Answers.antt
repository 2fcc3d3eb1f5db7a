use Rattle.fit_profile.proofs.Common.{◌∙◌, ap, Some, Defined, MessageDef, defined_at, told_at}
use Rattle.std.specs.Global.{Global}
use Rattle.fit_profile.proofs.Kept.{map-some, map-none}
use Rattle.fit_profile.proofs.by_plan.tell_values.Goals as goal

pub returns-in-Some : goal.returns-in-Some
returns-in-Some c =
    ap Some c.told_by.ensures
    ∙ map-some (λ (p : Defined Global). p.definition) (λ (d : MessageDef Global). told_at c.args.last d c.args.values.now)
    (defined_at c.args.env.now c.args.values.now.local) c.in-Some.definition.now c.in-Some.ensures.definition

pub returns-in-None : goal.returns-in-None
returns-in-None c =
    map-none (λ (p : Defined Global). p.definition) (λ (p : Defined Global). told_at c.args.last p.definition c.args.values.now)
    (defined_at c.args.env.now c.args.values.now.local) c.in-None.ensures.definition
