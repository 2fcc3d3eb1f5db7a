use Rattle.fit_profile.proofs.plan.Plan.may_count.Goals as goal

pub returns-then-self : goal.returns-then-self
returns-then-self c = cc
