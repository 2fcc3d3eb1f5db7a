use Rattle.fit_profile.proofs.Common.{◌∙◌, ◌+◌, ap, arith, drop, drop-drop, drop_of_length-le, get_or, option_and_then, sym, FieldDef, number_in}
use Rattle.std.specs.Global.{Global}
use Rattle.fit_record.specs.ReadMessages.{fields_from}
use Rattle.fit_profile.specs.inner.InBytes.{shapes}
use Rattle.fit_profile.proofs.CounterBytes.{counted_here, items_within, uncounted_here}
use Rattle.fit_profile.proofs.FieldPlaces.{absent}
use Rattle.fit_profile.proofs.InBytes.{first_in, left_sizes, passed}
use Rattle.fit_profile.proofs.counter_places.place_in.Goals as goal

abbrev nothing : FieldDef
nothing = record { number = 0; size = 0; code = 0 }

pub returns-then-places-c-eq0-clause-number : goal.returns-then-places-c-eq0-clause-number
returns-then-places-c-eq0-clause-number c order bytes =
    let fields = c.args.fields.now in
    let field = c.args.c.field in
    ap (option_and_then (λ f. number_in c.args.c f.1))
    (absent {A = Global} fields (fields_from order (shapes fields) bytes) field 0 (sym (c.requires.places field c.requires.field) ∙ c.if-places-c-eq0.true))

pub returns-then-not-has_items-clause-number : goal.returns-then-not-has_items-clause-number
returns-then-not-has_items-clause-number c order bytes =
    let l = c.loop-field in
    ap (option_and_then (λ f. number_in c.args.c f.1)) (l.invariant.first order bytes)
    ∙ uncounted_here c.args.c order c.args.fields.now (drop l.place bytes) l.field-index nothing c.loop-field-test.true c.if-field-c.true
    (sym c.has_items.ensures ∙ c.if-not-has_items.true)

pub returns-then-field-c-clause-within : goal.returns-then-field-c-clause-within
returns-then-field-c-clause-within c =
    let l = c.loop-field in
    let f = get_or c.args.fields.now l.field-index nothing in
    let here = left_sizes c.args.fields.now l.field-index nothing c.loop-field-test.true in
    let within = items_within c.args.c f (sym c.has_items.ensures ∙ c.if-not-has_items.false) in
    omega (arith, here, within, l.invariant.sum)

pub returns-then-field-c-clause-number : goal.returns-then-field-c-clause-number
returns-then-field-c-clause-number c order bytes =
    let l = c.loop-field in
    ap (option_and_then (λ f. number_in c.args.c f.1)) (l.invariant.first order bytes)
    ∙ counted_here c.args.c order c.args.fields.now (drop l.place bytes) l.field-index nothing c.loop-field-test.true c.if-field-c.true
    (sym c.has_items.ensures ∙ c.if-not-has_items.false)

pub loop-field-preserved : goal.loop-field-preserved
loop-field-preserved c =
    let fields = c.args.fields.now in
    let l = c.loop-field in
    let size = (get_or fields l.field-index nothing).size in
    let left = left_sizes fields l.field-index nothing c.loop-field-test.true in
    record {
      first = λ o bytes.
          l.invariant.first o bytes
          ∙ passed {A = Global} o fields (drop l.place bytes) c.args.c.field l.field-index nothing c.loop-field-test.true c.if-field-c.false
          ∙ ap (λ b. first_in {A = Global} o (drop (l.field-index + 1) fields) b c.args.c.field)
          (drop-drop size l.place bytes ∙ ap (λ n. drop (l.place + n) bytes) (sym c.from-place.ensures));
      sum = omega (arith, left, l.invariant.sum, c.from-place.ensures);
      small = omega (arith, l.invariant.small, c.from-place.ensures);
    }

pub returns-clause-number : goal.returns-clause-number
returns-clause-number c order bytes =
    let l = c.loop-field in
    ap (option_and_then (λ f. number_in c.args.c f.1))
    (l.invariant.first order bytes
    ∙ ap (λ fs. first_in {A = Global} order fs (drop l.place bytes) c.args.c.field) (drop_of_length-le c.args.fields.now c.loop-field-test.false))
