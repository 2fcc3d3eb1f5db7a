use Rattle.fit_record.proofs.Common.{◌<◌, ◌∙◌, sym, ap, subst, length, rules}
use Rattle.fit_record.proofs.WrongPlace.{length-dev_layout}
use Rattle.fit_record.specs.inner.ShapeLists.{shapes_of, HaveCodes}
use Rattle.fit_record.proofs.layout.Layout.shape.Goals as goal

pub shape_of_dev_field-requires-clause-place : goal.shape_of_dev_field-requires-clause-place
shape_of_dev_field-requires-clause-place c =
    let d = c.in-DevFields in
    subst (λ n. c.args.place < n) (ap length (sym c.self.view_is ∙ ap shapes_of d.is)
    ∙ length-dev_layout d.codes.now d.fields.now (subst HaveCodes d.is c.self.invariant)) c.requires

pub returns-in-Fields : goal.returns-in-Fields
returns-in-Fields c = search rules
