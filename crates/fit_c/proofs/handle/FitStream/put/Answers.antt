use Rattle.fit_c.proofs.handle.FitStream.put.Goals as goal

pub returns-in-Some : goal.returns-in-Some
returns-in-Some c = cc
