use Rattle.fit_cells.proofs.Common.{rules, ◌≡◌, ◌∙◌, ◌*ℤ◌, ap, arith, ℤ, pos, ◌-ℤ◌, to_z, of_z, ints, to_z-of_z, w64}
use Rattle.fit_cells.proofs.FormFacts.{formed_item, product_fits}
use Rattle.fit_cells.proofs.form.in_decimals.Goals as goal

pub overflow_mul-result : goal.overflow_mul-result
overflow_mul-result c =
    let small : to_z w64 (of_z w64 (to_z w64 (of_z w64 c.raw.result) -ℤ to_z w64 c.args.form.shift)) ≡ c.raw.result -ℤ pos c.args.form.shift =
    omega (arith, ints, c.raw.ensures.least, c.raw.ensures.most, c.requires.small.shift) in
    let factor : to_z w64 (of_z w64 c.from.result) ≡ pos c.args.form.factor =
    to_z-of_z w64 c.from.result (search (rules, c.from.type_inv)) ∙ c.from.ensures in
    rw (small, factor) (product_fits (c.raw.result -ℤ pos c.args.form.shift) c.args.form.factor
    (omega (arith, ints, c.raw.ensures.least, c.requires.small.shift)) (omega (arith, ints, c.raw.ensures.most)) c.requires.small.factor)

pub returns : goal.returns
returns c code info form valid =
    let f = c.args.form in
    let small : to_z w64 (of_z w64 (to_z w64 (of_z w64 c.raw.result) -ℤ to_z w64 c.args.form.shift)) ≡ c.raw.result -ℤ pos c.args.form.shift =
    omega (arith, ints, c.raw.ensures.least, c.raw.ensures.most, c.requires.small.shift) in
    let factor : to_z w64 (of_z w64 c.from.result) ≡ pos c.args.form.factor =
    to_z-of_z w64 c.from.result (search (rules, c.from.type_inv)) ∙ c.from.ensures in
    let number = c.raw.result -ℤ pos f.shift in
    let fits = product_fits number f.factor (omega (arith, ints, c.raw.ensures.least, c.requires.small.shift))
    (omega (arith, ints, c.raw.ensures.most)) c.requires.small.factor in
    rw (small, factor, to_z-of_z w64 (number *ℤ pos f.factor) fits)
    (formed_item f code info c.args.bits number form valid (ap (λ (z : ℤ). z -ℤ pos f.shift) c.raw.ensures.value))
