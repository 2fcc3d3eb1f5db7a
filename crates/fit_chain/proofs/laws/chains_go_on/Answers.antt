use Rattle.fit_chain.proofs.ViableGoesOn.{viable_goes}
use Rattle.fit_chain.proofs.Completions.{goes_viable}
use Rattle.fit_chain.proofs.laws.chains_go_on.Goals as goal

pub returns : goal.returns
returns g c = λ limit files progress bytes come are. (viable_goes limit files progress bytes come, goes_viable limit files progress bytes come are)
