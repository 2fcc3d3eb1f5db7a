use Rattle.fit_messages.proofs.report.MessagesReport.new.Goals as goal

pub returns : goal.returns
returns c = cc
