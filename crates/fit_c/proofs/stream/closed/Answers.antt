use Rattle.fit_c.proofs.stream.closed.Goals as goal

pub returns-clause-answer : goal.returns-clause-answer
returns-clause-answer c = c.plain.ensures
