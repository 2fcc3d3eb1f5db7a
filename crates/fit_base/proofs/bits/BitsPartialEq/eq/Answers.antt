use Rattle.fit_base.proofs.bits.BitsPartialEq.eq.Goals as goal

pub returns : goal.returns
returns g c = cc
