use Rattle.fit_base.proofs.bits.Bits.from_vec.Goals as goal

pub returns : goal.returns
returns g c = cc
