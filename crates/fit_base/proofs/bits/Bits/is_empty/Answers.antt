use Rattle.fit_base.proofs.bits.Bits.is_empty.Goals as goal

pub returns : goal.returns
returns g c = cc
