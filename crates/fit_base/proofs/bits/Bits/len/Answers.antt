use Rattle.fit_base.proofs.bits.Bits.len.Goals as goal

pub returns : goal.returns
returns g c = cc
