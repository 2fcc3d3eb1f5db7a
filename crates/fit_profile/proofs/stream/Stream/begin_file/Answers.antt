use Rattle.fit_profile.proofs.Common.{◌∙◌, sym, ap, reverse}
use Rattle.fit_profile.proofs.Kept.{keeps-nothing}
use Rattle.fit_profile.proofs.Planned.{planned_new}
use Rattle.fit_profile.proofs.stream.Stream.begin_file.Goals as goal

pub invariant_of-self : goal.invariant_of-self
invariant_of-self c = (
  keeps-nothing c.new.result c.new-2.result c.new-self-inside.result.items c.new.ensures c.new-2.ensures.naming c.new-2.ensures.namings
      c.new-self-inside.ensures,
  planned_new c.clear.new.self.places.items c.new.result c.clear.ensures c.new.ensures,
  λ is. c.new-self-inside.ensures,
)

pub returns-then-self : goal.returns-then-self
returns-then-self c = sym c.self.view_is ∙ ap reverse (c.self.invariant.2 c.if-self.true)
