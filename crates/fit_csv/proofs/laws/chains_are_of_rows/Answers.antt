use Rattle.fit_csv.proofs.Common.{subst, IsBytes}
use Rattle.fit_csv.proofs.InRange.{chain-of-rows}
use Rattle.fit_csv.proofs.laws.chains_are_of_rows.Goals as goal

pub returns : goal.returns
returns c files bytes are chain = chain-of-rows files chain.0 (subst IsBytes chain.1 are)
