use Rattle.fit_profile.proofs.Common.{◌≡◌, ◌∙◌, ◌∷◌, ◌+◌, ℕ, List, Some, FieldDef, suc, ap, arith, drop}
use Rattle.fit_profile.proofs.Common.{drop-cons, drop-drop, drop_of_length-le, eq-eqb, get_or, option_and_then, refl, sym}
use Rattle.std.proofs.Common.{lit≤}
use Rattle.std.specs.Global.{Global}
use Rattle.fit_base.specs.declared.number.Order.{Order}
use Rattle.fit_record.specs.ReadMessages.{fields_from}
use Rattle.fit_profile.specs.Times.{time_in_field}
use Rattle.fit_profile.specs.inner.InBytes.{shapes}
use Rattle.fit_profile.proofs.FieldPlaces.{absent}
use Rattle.fit_profile.proofs.InBytes.{first_in, items_at, left_sizes, passed, time_here}
use Rattle.fit_profile.proofs.plan.time_place.Goals as goal

abbrev nothing : FieldDef
nothing = record { number = 0; size = 0; code = 0 }

begins : (o : Order) (f : FieldDef) (fields : List FieldDef) (bytes : List ℕ) → f.number ≡ 253
    → first_in {A = Global} o (f ∷ fields) bytes 253 ≡ Some (f, items_at o f bytes)
begins o f fields bytes is = rw (eq-eqb f.number 253 is) refl

pub returns-then-places-eq0-clause-time : goal.returns-then-places-eq0-clause-time
returns-then-places-eq0-clause-time c order bytes =
    let fields = c.args.fields.now in
    ap (option_and_then (λ f. time_in_field f.0 f.1))
    (absent {A = Global} fields (fields_from order (shapes fields) bytes) 253 0 (sym (c.requires.places 253 (omega arith)) ∙ c.if-places-eq0.true))

pub loop-field-init : goal.loop-field-init
loop-field-init c = record { first = λ o bytes. refl; sum = omega arith; small = lit≤ tt }

pub loop-field-preserved : goal.loop-field-preserved
loop-field-preserved c =
    let fields = c.args.fields.now in
    let i = c.loop-field.field-index in
    let place = c.loop-field.place in
    let size = (get_or fields i nothing).size in
    let left = left_sizes fields i nothing c.loop-field-test.true in
    record {
      first = λ o bytes.
          c.loop-field.invariant.first o bytes ∙ passed {A = Global} o fields (drop place bytes) 253 i nothing c.loop-field-test.true c.if-field.false
          ∙ ap (λ b. first_in {A = Global} o (drop (i + 1) fields) b 253)
          (drop-drop size place bytes ∙ ap (λ n. drop (place + n) bytes) (sym c.from-place.ensures));
      sum = omega (arith, left, c.loop-field.invariant.sum, c.from-place.ensures);
      small = omega (arith, c.loop-field.invariant.small, c.from-place.ensures);
    }

pub returns-clause-time : goal.returns-clause-time
returns-clause-time c order bytes =
    ap (option_and_then (λ f. time_in_field f.0 f.1))
    (c.loop-field.invariant.first order bytes
    ∙ ap (λ fs. first_in {A = Global} order fs (drop c.loop-field.place bytes) 253) (drop_of_length-le c.args.fields.now c.loop-field-test.false))

pub returns-then-field-clause-time : goal.returns-then-field-clause-time
returns-then-field-clause-time c order bytes =
    let fields = c.args.fields.now in
    let i = c.loop-field.field-index in
    let left = drop c.loop-field.place bytes in
    let f = get_or fields i nothing in
    ap (option_and_then (λ g. time_in_field g.0 g.1))
    (c.loop-field.invariant.first order bytes
    ∙ ap (λ fs. first_in {A = Global} order fs left 253) (drop-cons fields i nothing c.loop-field-test.true)
    ∙ begins order f (drop (suc i) fields) left c.if-field.true)
    ∙ time_here Global order f left c.if-field-2.false c.if-field-ne4.false

pub returns-then-field-clause-within : goal.returns-then-field-clause-within
returns-then-field-clause-within c =
    omega (arith, left_sizes c.args.fields.now c.loop-field.field-index nothing c.loop-field-test.true, c.loop-field.invariant.sum, c.if-field-ne4.false)
