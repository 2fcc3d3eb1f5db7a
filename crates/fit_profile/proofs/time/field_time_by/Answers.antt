use Rattle.fit_profile.proofs.Common.{◌∙◌, sym, ap, ap₂, first_field, option_and_then, subst}
use Rattle.fit_profile.specs.Times.{time_in_field}
use Rattle.fit_profile.specs.inner.Places.{AreFieldPlaces}
use Rattle.fit_profile.proofs.time.field_time_by.Goals as goal

pub returns : goal.returns
returns g c =
    c.time_in_field.ensures ∙ ap (option_and_then (λ f. time_in_field f.0 f.1))
    (c.in_ok-field.ensures ∙ ap₂ (λ fs xs. first_field fs xs 253) c.as_slice.ensures c.as_slice-2.ensures)

pub returns-in_err-field : goal.returns-in_err-field
returns-in_err-field g c =
    c.from_residual.ensures ∙ ap (option_and_then (λ f. time_in_field f.0 f.1))
    (c.in_err-field.ensures ∙ ap₂ (λ fs xs. first_field fs xs 253) c.as_slice.ensures c.as_slice-2.ensures)

pub first_at-requires : goal.first_at-requires
first_at-requires g c = subst (AreFieldPlaces c.args.places.now) (sym c.as_slice.ensures) c.requires
