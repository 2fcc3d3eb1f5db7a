use Rattle.fit_cells.proofs.Common.{◌≡◌, ◌∙◌, ◌-ℤ◌, pos, Some, arith, ap, ints, to_z-of_z, w128, same_Some, none-some}
use Rattle.fit_cells.proofs.raw.unscaled.Goals as goal

pub returns-in_err-number : goal.returns-in_err-number
returns-in_err-number c raw least most e =
    absurd (none-some (raw -ℤ pos c.args.shift)
    (c.in_err-number.ensures.every (raw -ℤ pos c.args.shift) (omega (arith, ints, least, c.requires.shift)) (omega (arith, ints, most))
    (to_z-of_z w128 c.args.value c.ranges.value ∙ e)))

pub returns : goal.returns
returns c raw least most e =
    let number : c.in_ok-number.number ≡ raw -ℤ pos c.args.shift =
    same_Some c.in_ok-number.number (raw -ℤ pos c.args.shift)
    (c.in_ok-number.ensures.every (raw -ℤ pos c.args.shift) (omega (arith, ints, least, c.requires.shift)) (omega (arith, ints, most))
    (to_z-of_z w128 c.args.value c.ranges.value ∙ e)) in
    ap Some (omega (arith, ints, number, least, most, c.requires.shift))
