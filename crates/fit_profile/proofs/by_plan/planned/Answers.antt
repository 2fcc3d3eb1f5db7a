use Rattle.fit_profile.proofs.Planned.{of_definition, unplanned}
use Rattle.fit_profile.proofs.by_plan.planned.Goals as goal

pub returns-clause-plan : goal.returns-clause-plan
returns-clause-plan c =
    of_definition _ _ c.in_ok-plan.plan.now c.in_ok-definition.definition.now (c.requires c.args.local) c.in_ok-plan.ensures c.in_ok-definition.ensures

pub returns-in_err-plan-clause-definition : goal.returns-in_err-plan-clause-definition
returns-in_err-plan-clause-definition c = rw c.from_residual.ensures (unplanned _ _ (c.requires c.args.local) c.in_err-plan.ensures)
