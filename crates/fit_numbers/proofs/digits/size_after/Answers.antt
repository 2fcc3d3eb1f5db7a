use Rattle.fit_numbers.proofs.Common.{◌∙◌, ◌+◌, drop, drop_of_length-le, arith, sym, ap, refl, get_or, digits_in, next_value}
use Rattle.fit_numbers.proofs.DigitFacts.{digits_in-grows, digits_in-end, digits_in-at}
use Rattle.fit_numbers.proofs.digits.size_after.Goals as goal

pub returns-in_err-size-clause-none : goal.returns-in_err-size-clause-none
returns-in_err-size-clause-none c none =
    let more = c.loop-byte.invariant ∙ digits_in-at c.loop-byte.size c.args.text.now c.loop-byte.byte-index c.loop-byte-test.true in
    let big = c.in_err-size.ensures.none refl in
    rw more (omega (
      arith,
      big,
      digits_in-grows (next_value c.loop-byte.size (get_or c.args.text.now c.loop-byte.byte-index 0))
          (drop (c.loop-byte.byte-index + 1) c.args.text.now),
    ))

pub loop-byte-preserved : goal.loop-byte-preserved
loop-byte-preserved c =
    let more = c.loop-byte.invariant ∙ digits_in-at c.loop-byte.size c.args.text.now c.loop-byte.byte-index c.loop-byte-test.true in
    rw c.in_ok-size.ensures.some more

pub returns-clause-some : goal.returns-clause-some
returns-clause-some c =
    let none = drop_of_length-le c.args.text.now c.loop-byte-test.false in
    sym (c.loop-byte.invariant ∙ ap (digits_in c.loop-byte.size) none ∙ digits_in-end c.loop-byte.size)
