use Rattle.fit_step.proofs.RecordsInProgress.{refused_bytes_have_reasons}
use Rattle.fit_step.proofs.laws.refused_bytes_have_reasons.Goals as goal

pub returns : goal.returns
returns g c = refused_bytes_have_reasons
