use Rattle.std.proofs.Common.{rules}
use Rattle.fit_report.proofs.telling.Telling.feed.Goals as goal

pub returns-clause-all : goal.returns-clause-all
returns-clause-all g c = search rules

pub returns-clause-passes : goal.returns-clause-passes
returns-clause-passes g c = search rules

pub returns-clause-refused : goal.returns-clause-refused
returns-clause-refused g c = search rules
