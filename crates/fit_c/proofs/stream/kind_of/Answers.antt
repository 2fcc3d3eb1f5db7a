use Rattle.fit_c.proofs.stream.kind_of.Goals as goal

pub returns-in-2 : goal.returns-in-2
returns-in-2 c = cc
