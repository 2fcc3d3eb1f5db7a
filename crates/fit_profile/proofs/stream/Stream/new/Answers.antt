use Rattle.fit_profile.proofs.Kept.{keeps-nothing}
use Rattle.fit_profile.proofs.Planned.{planned_new}
use Rattle.fit_profile.proofs.stream.Stream.new.Goals as goal

pub invariant_of-result : goal.invariant_of-result
invariant_of-result c = (
  keeps-nothing c.new.result c.new-3.result c.new-4.result.items c.new.ensures c.new-3.ensures.naming c.new-3.ensures.namings c.new-4.ensures,
  planned_new c.new-2.result.places.items c.new.result c.new-2.ensures.none c.new.ensures,
  λ is. c.new-4.ensures,
)
