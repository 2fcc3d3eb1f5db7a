use Rattle.fit_report.proofs.heard.Heard.new.Goals as goal

pub returns : goal.returns
returns c = cc
