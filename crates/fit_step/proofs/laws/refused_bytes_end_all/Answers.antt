use Rattle.fit_step.proofs.TakenAndRefusedBytes.{refused_bytes_end_all}
use Rattle.fit_step.proofs.laws.refused_bytes_end_all.Goals as goal

pub returns : goal.returns
returns g c = refused_bytes_end_all
