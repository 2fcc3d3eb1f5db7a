use Rattle.fit_text_report.proofs.found.Findings.find.Goals as goal

pub returns-then-is_current-clause-found : goal.returns-then-is_current-clause-found
returns-then-is_current-clause-found g c =
    c.requires.current c.args.local c.args.defined.now c.requires.place (c.is_current.ensures.0 c.if-is_current.true)
