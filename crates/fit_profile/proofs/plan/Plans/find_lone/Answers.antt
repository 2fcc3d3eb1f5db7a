use Rattle.fit_profile.proofs.Common.{sym, subst}
use Rattle.fit_profile.specs.inner.Plans.{ArePlanned}
use Rattle.fit_profile.proofs.Planned.{has_place, lone_kept}
use Rattle.fit_profile.proofs.plan.Plans.find_lone.Goals as goal

pub put-requires : goal.put-requires
put-requires c = has_place c.args.self.now.places.items c.args.local c.in-Some.plan.now c.in-Some.ensures

pub returns-clause-plans : goal.returns-clause-plans
returns-clause-plans c places at planned =
    subst (λ plans. ArePlanned plans places) (sym c.put.ensures)
    (lone_kept c.args.self.now.places.items places c.args.local c.in-Some.plan.now c.args.defined.now c.has_lone_fields-lone.result c.in-Some.ensures at
    c.has_lone_fields-lone.ensures planned)
