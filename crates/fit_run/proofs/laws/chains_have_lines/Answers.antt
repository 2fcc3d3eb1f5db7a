use Rattle.fit_run.proofs.Counts.{chains_have_lines}
use Rattle.fit_run.proofs.laws.chains_have_lines.Goals as goal

pub returns : goal.returns
returns g c = chains_have_lines
