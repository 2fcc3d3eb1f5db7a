use Rattle.fit_base.proofs.bits.Bits.lone.Goals as goal

pub returns-in-One : goal.returns-in-One
returns-in-One g c = cc
