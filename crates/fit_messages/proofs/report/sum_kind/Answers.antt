use Rattle.fit_messages.proofs.report.sum_kind.Goals as goal

pub returns-in-Zero : goal.returns-in-Zero
returns-in-Zero c = cc
