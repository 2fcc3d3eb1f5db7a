use Rattle.std.proofs.Common.{rules}
use Rattle.fit_messages.proofs.report.MessagesReport.take_end.Goals as goal

pub returns-clause-kept : goal.returns-clause-kept
returns-clause-kept c = search rules
