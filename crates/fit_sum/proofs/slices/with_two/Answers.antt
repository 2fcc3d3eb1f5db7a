use Rattle.fit_sum.proofs.Common.{◌≡◌, ◌%◌, ◌/◌, ap, ◌∙◌, arith, bit_xor, xor_mod, xor_shr}
use Rattle.fit_sum.proofs.slices.with_two.Goals as goal

pub returns-clause-low : goal.returns-clause-low
returns-clause-low c =
    let low : c.from_le_bytes.result % 256 ≡ c.args.a = omega (arith, c.from_le_bytes.ensures, c.ranges.a.fits, c.ranges.b.fits) in
    xor_mod c.args.register c.from_le_bytes.result 8 ∙ ap (bit_xor (c.args.register % 256)) low

pub returns-clause-high : goal.returns-clause-high
returns-clause-high c =
    let high : c.from_le_bytes.result / 256 ≡ c.args.b = omega (arith, c.from_le_bytes.ensures, c.ranges.a.fits, c.ranges.b.fits) in
    xor_shr c.args.register c.from_le_bytes.result 8 ∙ ap (bit_xor (c.args.register / 256)) high
