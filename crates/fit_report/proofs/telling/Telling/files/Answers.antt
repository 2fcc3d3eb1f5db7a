use Rattle.fit_report.proofs.telling.Telling.files.Goals as goal

pub returns-clause-files : goal.returns-clause-files
returns-clause-files c = rw (← c.self.view_is) c.files.ensures.files

pub returns-clause-refused : goal.returns-clause-refused
returns-clause-refused c = rw (← c.self.view_is) c.files.ensures.refused
