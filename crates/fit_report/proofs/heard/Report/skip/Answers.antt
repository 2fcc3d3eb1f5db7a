use Rattle.fit_report.proofs.Skipped.{skips_nothing}
use Rattle.fit_report.proofs.heard.Report.skip.Goals as goal

pub returns-clause-skips : goal.returns-clause-skips
returns-clause-skips g c = skips_nothing
