use Rattle.fit_profile.proofs.Common.{sym, subst, defined_at}
use Rattle.fit_record.specs.Environment.{DescribesNothing}
use Rattle.fit_profile.proofs.Planned.{describes_nothing}
use Rattle.fit_profile.proofs.by_plan.is_plain.Goals as goal

pub returns-in-Define : goal.returns-in-Define
returns-in-Define c e planned wrong = cc wrong

pub returns-in-None : goal.returns-in-None
returns-in-None c e planned wrong = cc wrong

pub returns-in-Some : goal.returns-in-Some
returns-in-Some c e planned plain =
    let v = c.in-Values.values in
    subst (DescribesNothing e) (sym c.in-Values.is)
    (describes_nothing _ (defined_at e v.local) c.in-Some.plan.now v (planned v.local) c.in-Some.ensures plain)
