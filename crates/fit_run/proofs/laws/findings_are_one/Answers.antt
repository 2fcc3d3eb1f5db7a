use Rattle.fit_run.proofs.Findings.{findings_are_one}
use Rattle.fit_run.proofs.laws.findings_are_one.Goals as goal

pub returns : goal.returns
returns g c = findings_are_one c.reasons_are_one.ensures
