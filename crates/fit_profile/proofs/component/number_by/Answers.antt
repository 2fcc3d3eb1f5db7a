use Rattle.fit_profile.proofs.Common.{◌≡◌, ◌∙◌, sym, ap, ap₂, cond, eq-eqb, ne_eqb, None, Some, Option, Items, FieldDef, MessageDef, Values}
use Rattle.fit_profile.proofs.Common.{first_field, number_in, number_of, option_and_then, subst}
use Rattle.fit_profile.specs.inner.Places.{AreFieldPlaces}
use Rattle.fit_profile.specs.declared.component.Component.{Component}
use Rattle.fit_profile.proofs.component.number_by.Goals as goal

-- the number of a record message, by its first field of the component's number
of_record : {A : Type 0} (c : Component) (d : MessageDef A) (v : Values A) (o : Option (FieldDef × Items A)) → d.global ≡ 20
    → o ≡ first_field d.fields v.fields c.field → option_and_then (λ f. number_in c f.1) o ≡ number_of c d v
of_record c d v o is first = ap (option_and_then (λ f. number_in c f.1)) first
    ∙ sym (ap (λ b. cond b (option_and_then (λ f. number_in c f.1) (first_field d.fields v.fields c.field)) None) (eq-eqb d.global 20 is))

pub returns-clause-small : goal.returns-clause-small
returns-clause-small g c = c.number_at.ensures.small

pub returns-clause-number : goal.returns-clause-number
returns-clause-number g c =
    c.number_at.ensures.number
    ∙ of_record c.args.c c.args.definition.now c.args.values.now (Some (c.in_ok-items.field-0-0.now, c.in_ok-items.items.now)) c.if-definition-ne20.false
    (c.in_ok-items.ensures ∙ ap₂ (λ fs xs. first_field fs xs c.args.c.field) c.as_slice.ensures c.as_slice-2.ensures)

pub returns-in_err-items-clause-small : goal.returns-in_err-items-clause-small
returns-in_err-items-clause-small g c = rw c.from_residual.ensures tt

pub returns-in_err-items-clause-number : goal.returns-in_err-items-clause-number
returns-in_err-items-clause-number g c =
    c.from_residual.ensures ∙ of_record c.args.c c.args.definition.now c.args.values.now None c.if-definition-ne20.false
    (c.in_err-items.ensures ∙ ap₂ (λ fs xs. first_field fs xs c.args.c.field) c.as_slice.ensures c.as_slice-2.ensures)

pub returns-then-definition-ne20-clause-small : goal.returns-then-definition-ne20-clause-small
returns-then-definition-ne20-clause-small g c = tt

pub returns-then-definition-ne20-clause-number : goal.returns-then-definition-ne20-clause-number
returns-then-definition-ne20-clause-number g c =
    let d = c.args.definition.now in
    sym (ap (λ b. cond b (option_and_then (λ f. number_in c.args.c f.1) (first_field d.fields c.args.values.now.fields c.args.c.field)) None)
    (ne_eqb d.global 20 c.if-definition-ne20.true))

pub first_at-requires : goal.first_at-requires
first_at-requires g c = subst (AreFieldPlaces c.args.places.now) (sym c.as_slice.ensures) c.requires.places
