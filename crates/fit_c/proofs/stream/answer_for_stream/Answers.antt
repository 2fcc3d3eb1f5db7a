use Rattle.fit_c.proofs.stream.answer_for_stream.Goals as goal

pub returns-in-Ok : goal.returns-in-Ok
returns-in-Ok c = cc
