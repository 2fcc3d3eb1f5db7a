use Rattle.fit_base.proofs.bits.Bits.one.Goals as goal

pub returns : goal.returns
returns g c = cc
