use Rattle.fit_record.proofs.ChainOfOne.{chain_of_one}
use Rattle.fit_record.proofs.laws.chain_of_one.Goals as goal

pub returns : goal.returns
returns g c = chain_of_one
