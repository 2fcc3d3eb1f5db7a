use Rattle.fit_numbers.proofs.scaled.shift.Goals as goal

pub returns-clause-value : goal.returns-clause-value
returns-clause-value c = cc
