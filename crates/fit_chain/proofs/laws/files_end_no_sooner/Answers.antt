use Rattle.fit_chain.proofs.NoSooner.{no_sooner}
use Rattle.fit_chain.proofs.laws.files_end_no_sooner.Goals as goal

pub returns : goal.returns
returns g c = no_sooner
