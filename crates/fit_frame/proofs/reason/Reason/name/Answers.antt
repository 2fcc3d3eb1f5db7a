use Rattle.fit_frame.proofs.reason.Reason.name.Goals as goal

pub returns-in-FileSum : goal.returns-in-FileSum
returns-in-FileSum c = cc
