use Rattle.fit_text_report.proofs.found.Findings.forget_one.Goals as goal

pub returns-clause-current : goal.returns-clause-current
returns-clause-current g c = c.note.ensures
