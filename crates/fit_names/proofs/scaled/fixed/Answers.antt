use Rattle.std.proofs.Common.{rules, ◌≡◌, ◌∙◌, ◌*ℤ◌, ◌-ℤ◌, ◌*◌, ◌^◌, ap, arith, pos, ℤ, to_z, of_z}
use Rattle.std.proofs.lemmas.Int.{ints, to_z-of_z}
use Rattle.std.specs.Int.{w128}
use Rattle.fit_numbers.specs.Scaled.{decimals}
use Rattle.fit_names.proofs.scaled.fixed.Goals as goal

pub returns-clause-value : goal.returns-clause-value
returns-clause-value c =
    let value : to_z w128 (of_z w128 c.in_decimals.result) ≡ c.in_decimals.result = to_z-of_z w128 c.in_decimals.result (search (rules, c.in_decimals.type_inv))
    in
    let number : to_z w128 (of_z w128 (to_z w128 (of_z w128 c.args.raw) -ℤ to_z w128 c.shift.result))
    ≡ c.args.raw -ℤ pos (c.args.info.offset * c.args.info.scale) =
    omega (arith, ints, c.requires.least, c.requires.most, c.shift.ensures.value, c.shift.ensures.bound) in
    ap (λ (z : ℤ). z *ℤ pos c.args.info.scale) value ∙ c.in_decimals.ensures ∙ ap (λ (z : ℤ). z *ℤ pos (10 ^ decimals c.args.info.scale)) number
