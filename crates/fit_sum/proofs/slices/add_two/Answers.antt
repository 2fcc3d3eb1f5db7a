use Rattle.fit_sum.proofs.Common.{◌<◌, ◌/◌, arith, get_or, xor_lt}
use Rattle.fit_sum.proofs.EightBytes.{two}
use Rattle.fit_sum.proofs.slices.add_two.Goals as goal

pub returns : goal.returns
returns c =
    let high : c.args.register / 256 < 256 = omega arith in
    cc (two c.args.register c.args.bytes.now (xor_lt 8 (c.args.register / 256) (get_or c.args.bytes.now 1 0) high (c.fits-bytes 1)) c.told-bytes c.fits-bytes)
