use Rattle.fit_numbers.proofs.Common.{◌∙◌, drop_of_length-le, sym, ap, digits_in}
use Rattle.fit_numbers.proofs.DigitFacts.{digits_in-end, digits_in-at}
use Rattle.fit_numbers.proofs.digits.size_of.Goals as goal

pub loop-place-preserved : goal.loop-place-preserved
loop-place-preserved c =
    let more = c.loop-place.invariant ∙ digits_in-at c.loop-place.size c.args.text.now c.loop-place.place c.loop-place-test.true in
    rw c.next_small-size.ensures more

pub returns-clause-some : goal.returns-clause-some
returns-clause-some c =
    let none = drop_of_length-le c.args.text.now c.loop-place-test.false in
    sym (c.loop-place.invariant ∙ ap (digits_in c.loop-place.size) none ∙ digits_in-end c.loop-place.size)
