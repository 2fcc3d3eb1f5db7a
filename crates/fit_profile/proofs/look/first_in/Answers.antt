use Rattle.fit_profile.proofs.Common.{◌∙◌, ◌+◌, Some, FieldDef, ap, arith, drop, length, get_or, drop_of_length-le, refl, sym}
use Rattle.std.proofs.lemmas.List.{length-drop}
use Rattle.std.specs.Global.{Global}
use Rattle.fit_record.specs.ReadMessages.{field_from}
use Rattle.fit_profile.proofs.CounterBytes.{first_here}
use Rattle.fit_profile.proofs.InBytes.{first_in, left_sizes, passed}
use Rattle.fit_profile.proofs.look.first_in.Goals as goal

abbrev nothing : FieldDef
nothing = record { number = 0; size = 0; code = 0 }

pub loop-field-init : goal.loop-field-init
loop-field-init c = record { first = λ o. refl; enough = c.requires }

pub split_at-requires : goal.split_at-requires
split_at-requires c =
    omega (arith, left_sizes c.args.fields.now c.loop-field.field-index nothing c.loop-field-test.true, c.loop-field.invariant.enough)

pub loop-field-preserved : goal.loop-field-preserved
loop-field-preserved c =
    let fields = c.args.fields.now in
    let i = c.loop-field.field-index in
    let rest = c.loop-field.rest.now in
    let size = (get_or fields i nothing).size in
    record {
      first = λ o. c.loop-field.invariant.first o ∙ passed {A = Global} o fields rest c.args.number i nothing c.loop-field-test.true c.if-field-number.false
          ∙ ap (λ b. first_in {A = Global} o (drop (i + 1) fields) b c.args.number) (sym c.split_at.ensures.back);
      enough = omega (
        arith,
        left_sizes fields i nothing c.loop-field-test.true,
        c.loop-field.invariant.enough,
        ap length c.split_at.ensures.back,
        length-drop size rest,
      );
    }

pub returns-clause-found : goal.returns-clause-found
returns-clause-found c o =
    sym (c.loop-field.invariant.first o
    ∙ ap (λ fs. first_in {A = Global} o fs c.loop-field.rest.now c.args.number) (drop_of_length-le c.args.fields.now c.loop-field-test.false))

pub returns-then-field-number-clause-found : goal.returns-then-field-number-clause-found
returns-then-field-number-clause-found c o =
    let fields = c.args.fields.now in
    let i = c.loop-field.field-index in
    let f = get_or fields i nothing in
    ap (λ b. Some (f, field_from {A = Global} o (f.code, f.size) b)) c.split_at.ensures.front
    ∙ sym (c.loop-field.invariant.first o
    ∙ first_here Global o fields c.loop-field.rest.now c.args.number i nothing c.loop-field-test.true c.if-field-number.true)
