use Rattle.std.proofs.Common.{rules}
use Rattle.fit_text_report.proofs.found.Findings.forget.Goals as goal

pub returns : goal.returns
returns g c = search rules
