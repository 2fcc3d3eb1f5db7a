use Rattle.fit_profile.proofs.Common.{◌∙◌, sym, ap, tell}
use Rattle.fit_profile.proofs.by_plan.tell.Goals as goal

pub returns-in-Define : goal.returns-in-Define
returns-in-Define c = ap (tell c.args.env.now c.args.last) (sym c.in-Define.is)

pub returns-in-Values : goal.returns-in-Values
returns-in-Values c = c.tell_values.ensures ∙ ap (tell c.args.env.now c.args.last) (sym c.in-Values.is)
