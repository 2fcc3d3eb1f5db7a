use Rattle.fit_numbers.proofs.scaled.decimals_of.Goals as goal

pub returns-in-1000-clause-value : goal.returns-in-1000-clause-value
returns-in-1000-clause-value c = cc
