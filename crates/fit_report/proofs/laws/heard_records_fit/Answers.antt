use Rattle.fit_report.proofs.Records.{heard_records_fit}
use Rattle.fit_report.proofs.laws.heard_records_fit.Goals as goal

pub returns : goal.returns
returns g c = heard_records_fit
