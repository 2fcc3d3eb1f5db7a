use Rattle.fit_profile.proofs.Common.{◌∙◌, sym, ap₂, first_field, subst}
use Rattle.fit_profile.specs.inner.Places.{AreFieldPlaces}
use Rattle.fit_profile.proofs.message.Message.first_of.Goals as goal

pub returns : goal.returns
returns g c = c.first_at.ensures ∙ ap₂ (λ fs xs. first_field fs xs c.args.number) c.as_slice.ensures c.as_slice-2.ensures

pub first_at-requires : goal.first_at-requires
first_at-requires g c = subst (AreFieldPlaces c.args.self.now.places.now) (sym c.as_slice.ensures) c.args.self.now.placed
