use Rattle.fit_profile.proofs.Common.{◌≡◌, ◌∙◌, ◌+◌, ◌-◌, ◌<◌, sym, arith, get_or}
use Rattle.fit_profile.specs.inner.Places.{place_from}
use Rattle.fit_profile.proofs.FieldPlaces.{absent, found}
use Rattle.fit_profile.proofs.places.first_at.Goals as goal

pub returns : goal.returns
returns g c =
    let number = c.args.number in
    let fields = c.args.fields.now in
    let place = get_or c.args.places.now number 0 - 1 in
    let small : number < 256 = omega (arith, c.ranges.number.fits) in
    let known = c.requires number small in
    let at : place_from 0 fields number ≡ 0 + place + 1 = omega (arith, known, c.if-place-eq0.false) in
    c.at_place.ensures ∙ sym (found fields c.args.items.now number 0 place at)

pub returns-then-place-eq0 : goal.returns-then-place-eq0
returns-then-place-eq0 g c =
    let small : c.args.number < 256 = omega (arith, c.ranges.number.fits) in
    sym (absent c.args.fields.now c.args.items.now c.args.number 0 (sym (c.requires c.args.number small) ∙ c.if-place-eq0.true))
