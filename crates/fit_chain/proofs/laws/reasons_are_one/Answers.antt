use Rattle.fit_chain.proofs.OneReason.{one_reason}
use Rattle.fit_chain.proofs.laws.reasons_are_one.Goals as goal

pub returns : goal.returns
returns g c = one_reason
