use Rattle.fit_profile.proofs.Common.{◌≡◌, ◌∙◌, ◌-◌, ◌+◌, ◌<◌, ap, arith, sym, drop, get_or, length, rules, FieldDef}
use Rattle.std.proofs.lemmas.List.{get_or-replicate}
use Rattle.std.proofs.Math.ListN.{length-set}
use Rattle.fit_profile.specs.inner.Places.{place_from}
use Rattle.fit_profile.proofs.FieldPlaces.{none-after, put-before}
use Rattle.fit_profile.proofs.places.places_of.Goals as goal

abbrev nothing : FieldDef
nothing = record { number = 0; size = 0; code = 0 }

pub loop-count-init : goal.loop-count-init
loop-count-init c = record {
  long = search rules;
  right = λ number small. get_or-replicate 256 number 0 0 small ∙ sym (none-after c.args.fields.now (length c.args.fields.now - 0) number (omega arith));
}

pub loop-count-preserved : goal.loop-count-preserved
loop-count-preserved c =
    let fields = c.args.fields.now in
    let count = c.loop-count.count in
    let places = c.loop-count.places in
    let place = length fields - 1 - count in
    let f = get_or fields place nothing in
    let here : length fields - (count + 1) ≡ place = omega arith in
    let next : length fields - count ≡ place + 1 = omega (arith, c.loop-count-test.true) in
    let below : place < length fields = omega (arith, c.loop-count-test.true) in
    let within : f.number < length places = omega (arith, c.loop-count-test.element_fits.fits, c.loop-count.invariant.long) in
    record {
      long = length-set places f.number (place + 1) ∙ c.loop-count.invariant.long;
      right = λ number small.
          put-before fields places nothing place below within
          (λ n few. c.loop-count.invariant.right n few ∙ ap (λ k. place_from k (drop k fields) n) next) number small
          ∙ sym (ap (λ k. place_from k (drop k fields) number) here);
    }

pub returns : goal.returns
returns c number small =
    let whole : length c.args.fields.now - c.loop-count.count ≡ 0 = omega (arith, c.loop-count-test.false) in
    c.loop-count.invariant.right number small ∙ ap (λ k. place_from k (drop k c.args.fields.now) number) whole
