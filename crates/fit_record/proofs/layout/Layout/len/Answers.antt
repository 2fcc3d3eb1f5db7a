use Rattle.fit_record.proofs.Common.{◌∙◌, sym, ap, subst, length, length-map}
use Rattle.fit_record.proofs.WrongPlace.{length-dev_layout}
use Rattle.fit_record.specs.inner.ShapeLists.{shapes_of, HaveCodes}
use Rattle.fit_record.proofs.layout.Layout.len.Goals as goal

pub returns-in-DevFields : goal.returns-in-DevFields
returns-in-DevFields c =
    let d = c.in-DevFields in
    sym (ap length (sym c.self.view_is ∙ ap shapes_of d.is)
    ∙ length-dev_layout d.field-0.now d.fields.now (subst HaveCodes d.is c.self.invariant))

pub returns-in-Fields : goal.returns-in-Fields
returns-in-Fields c =
    sym (ap length (sym c.self.view_is ∙ ap shapes_of c.in-Fields.is) ∙ length-map _ (λ f. (f.code, f.size)))
