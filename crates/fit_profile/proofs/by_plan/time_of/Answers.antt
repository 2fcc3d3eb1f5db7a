use Rattle.fit_profile.proofs.Common.{◌∙◌, sym, ap}
use Rattle.fit_profile.specs.Times.{time_of}
use Rattle.fit_profile.proofs.by_plan.time_of.Goals as goal

pub returns-in-Define : goal.returns-in-Define
returns-in-Define c = ap (time_of c.args.env.now c.args.previous) (sym c.in-Define.is)

pub returns-in-Values : goal.returns-in-Values
returns-in-Values c = c.time_of_values.ensures ∙ ap (time_of c.args.env.now c.args.previous) (sym c.in-Values.is)
