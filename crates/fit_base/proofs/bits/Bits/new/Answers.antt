use Rattle.fit_base.proofs.bits.Bits.new.Goals as goal

pub returns : goal.returns
returns g c = cc
