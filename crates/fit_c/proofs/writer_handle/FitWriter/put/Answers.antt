use Rattle.fit_c.proofs.writer_handle.FitWriter.put.Goals as goal

pub returns-in-Some : goal.returns-in-Some
returns-in-Some c = cc
