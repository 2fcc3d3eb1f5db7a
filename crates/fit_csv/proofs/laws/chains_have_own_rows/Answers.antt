use Rattle.fit_csv.proofs.OneChain.{one-chain}
use Rattle.fit_csv.proofs.laws.chains_have_own_rows.Goals as goal

pub returns : goal.returns
returns c = one-chain c.text_has_one_number.ensures
