use Rattle.fit_cells.proofs.Common.{◌≡◌, arith, to_z, of_z, FitsSigned, subst, ℤ, ints, to_z-of_z, w128, IsScaled}
use Rattle.fit_cells.proofs.NumberFacts.{is_scaled}
use Rattle.fit_cells.proofs.numbers.scaled.Goals as goal

pub returns-clause-value : goal.returns-clause-value
returns-clause-value c =
    let fits : FitsSigned w128 c.args.raw = omega (arith, ints, c.requires.least, c.requires.most) in
    let kept : to_z w128 (of_z w128 c.args.raw) ≡ c.args.raw = to_z-of_z w128 c.args.raw fits in
    is_scaled c.args.raw c.fixed.result.value c.args.info.scale c.args.info.offset c.requires.scale
    (subst (λ (z : ℤ). IsScaled z c.args.info.scale c.args.info.offset c.fixed.result.value) kept c.fixed.ensures.value)
