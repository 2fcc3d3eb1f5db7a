use Rattle.fit_profile.proofs.Common.{◌∙◌, ap, slice_get, namings_at}
use Rattle.fit_profile.proofs.stream.Stream.texts_at.Goals as goal

pub returns : goal.returns
returns c =
    let kept = c.self.invariant.0.namings_are c.args.local ∙ ap (λ xs. namings_at xs c.args.local) c.self.view_is in
    c.at_place.ensures ∙ ap (λ xs. slice_get xs c.args.place) kept
