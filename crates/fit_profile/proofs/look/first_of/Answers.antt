use Rattle.fit_profile.proofs.Common.{◌∙◌, sym, ap, drop, drop_of_length-le, get_or, add-one, Some, FieldDef, first_field}
use Rattle.fit_profile.proofs.FirstField.{here, no-items, none-left, past}
use Rattle.fit_profile.proofs.look.first_of.Goals as goal

abbrev nothing : FieldDef
nothing = record { number = 0; size = 0; code = 0 }

pub loop-i-preserved : goal.loop-i-preserved
loop-i-preserved g c =
    c.loop-i.invariant ∙ past c.args.fields.now c.args.items.now c.args.number c.loop-i.i nothing c.loop-i-test.true c.if-field-number.false
    ∙ ap (λ n. first_field (drop n c.args.fields.now) (drop n c.args.items.now) c.args.number) (sym (add-one c.loop-i.i))

pub returns : goal.returns
returns g c = sym (c.loop-i.invariant ∙ none-left c.args.fields.now c.args.items.now c.args.number c.loop-i.i c.loop-i-test.false)

pub returns-then-i-items : goal.returns-then-i-items
returns-then-i-items g c =
    let left = drop c.loop-i.i c.args.fields.now in
    sym (c.loop-i.invariant ∙ ap (λ xs. first_field left xs c.args.number) (drop_of_length-le c.args.items.now c.if-i-items.true)
    ∙ no-items left c.args.number)

pub returns-then-field-number : goal.returns-then-field-number
returns-then-field-number g c =
    let fields = c.args.fields.now in
    let i = c.loop-i.i in
    let field = get_or fields i nothing in
    sym (c.loop-i.invariant
    ∙ here fields c.args.items.now c.args.number i nothing c.index-items-i.result c.loop-i-test.true c.if-field-number.true c.if-i-items.false
    ∙ ap (λ x. Some (field, x)) (sym c.index-items-i.is))
