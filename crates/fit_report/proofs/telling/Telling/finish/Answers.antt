use Rattle.fit_report.proofs.telling.Telling.finish.Goals as goal

pub returns-clause-good : goal.returns-clause-good
returns-clause-good c = rw (← c.self.view_is) c.finish.ensures.good

pub returns-clause-refused : goal.returns-clause-refused
returns-clause-refused c = rw (← c.self.view_is) c.finish.ensures.refused
