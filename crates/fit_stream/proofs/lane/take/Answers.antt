use Rattle.fit_stream.proofs.lane.take.Goals as goal

pub returns-clause-text : goal.returns-clause-text
returns-clause-text c = cc

pub returns-clause-taken : goal.returns-clause-taken
returns-clause-taken c = cc
