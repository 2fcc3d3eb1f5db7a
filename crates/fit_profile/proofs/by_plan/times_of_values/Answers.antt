use Rattle.fit_profile.proofs.Common.{◌≡◌, ◌∙◌, refl, sym, ap, None, Some, Defined, MessageDef, defined_at, description, told_at}
use Rattle.std.specs.Global.{Global}
use Rattle.fit_profile.proofs.Kept.{map-some, through}
use Rattle.fit_profile.proofs.NoCounters.{parts}
use Rattle.fit_profile.proofs.by_plan.times_of_values.Goals as goal

pub times_by-requires-clause-plan : goal.times_by-requires-clause-plan
times_by-requires-clause-plan c = c.in_ok-definition.ensures.plan

pub times_by-requires-clause-alone : goal.times_by-requires-clause-alone
times_by-requires-clause-alone c = c.if-plan.false

pub returns-clause-told : goal.returns-clause-told
returns-clause-told c =
    ap Some c.times_by.ensures
    ∙ map-some (λ (p : Defined Global). p.definition) (λ (d : MessageDef Global). told_at c.args.last d c.args.values.now)
    (defined_at c.args.env.now c.args.values.now.local) c.in_ok-definition.definition.now c.in_ok-definition.ensures.definition

pub returns-clause-nothing : goal.returns-clause-nothing
returns-clause-nothing c =
    let d = c.in_ok-definition.definition.now in
    let v = c.args.values.now in
    let other = (parts d (sym c.in_ok-definition.ensures.plan.more ∙ c.if-plan.false)).0 in
    let none : description d v ≡ None = rw other refl in
    sym (through (λ (p : Defined Global). p.definition) (λ (x : MessageDef Global). description x v) (defined_at c.args.env.now v.local) d
    c.in_ok-definition.ensures.definition) ∙ none
