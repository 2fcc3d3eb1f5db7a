use Rattle.fit_report.proofs.telling.tell_event.Goals as goal

pub tell-requires : goal.tell-requires
tell-requires g c = c.requires

pub returns-clause-heard : goal.returns-clause-heard
returns-clause-heard g c = c.tell.ensures.heard

pub returns-clause-text : goal.returns-clause-text
returns-clause-text g c = c.tell.ensures.text
