use Rattle.fit_cells.proofs.Common.{◌∙◌, ◌*◌, ◌+◌, arith, drop, ap, sym, drop_of_length-le, read_hex}
use Rattle.fit_cells.proofs.ReadFacts.{room, below_next, read_hex-at, read_hex-end}
use Rattle.fit_cells.proofs.hexadecimal.read_digits.Goals as goal

pub overflow_add-number : goal.overflow_add-number
overflow_add-number c = let r = room c.loop-digit.number c.loop-digit.digit-index c.digit_value.result c.loop-digit.invariant.below (omega arith)
    c.digit_value.ensures.below in omega (arith, r)

pub overflow_mul-number : goal.overflow_mul-number
overflow_mul-number c = let r = room c.loop-digit.number c.loop-digit.digit-index 0 c.loop-digit.invariant.below (omega arith) (omega arith) in omega (arith, r)

pub loop-digit-preserved : goal.loop-digit-preserved
loop-digit-preserved c = record {
  value = c.loop-digit.invariant.value ∙ read_hex-at c.loop-digit.number c.args.digits.now c.loop-digit.digit-index c.loop-digit-test.true
      ∙ ap (λ v. read_hex (c.loop-digit.number * 16 + v) (drop (c.loop-digit.digit-index + 1) c.args.digits.now)) (sym c.digit_value.ensures.value);
  below = below_next c.loop-digit.number c.loop-digit.digit-index c.digit_value.result c.loop-digit.invariant.below c.digit_value.ensures.below;
}

pub returns-clause-value : goal.returns-clause-value
returns-clause-value c =
    let none = drop_of_length-le c.args.digits.now c.loop-digit-test.false in
    sym (c.loop-digit.invariant.value ∙ ap (read_hex c.loop-digit.number) none ∙ read_hex-end c.loop-digit.number)
