use Rattle.fit_run.proofs.lines.truncated.Goals as goal

pub returns : goal.returns
returns c = c.numbered.ensures.text
