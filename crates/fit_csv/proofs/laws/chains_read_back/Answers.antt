use Rattle.fit_csv.proofs.SevenRows.{chain-reads-back}
use Rattle.fit_csv.proofs.laws.chains_read_back.Goals as goal

pub returns : goal.returns
returns g c = chain-reads-back
