use Rattle.fit_step.proofs.Common.{arith}
use Rattle.fit_step.proofs.KeptMessages.{is_cut}
use Rattle.fit_step.proofs.short.cut_size.Goals as goal

pub returns : goal.returns
returns g c = λ some.
    is_cut c.args.env.now c.args.bytes.now c.in-Some.local c.in-Some-length.size c.in-Some.ensures c.in-Some-length.ensures.size
    (omega (arith, c.if-size-bytes.false))
