use Rattle.fit_base.proofs.Common.{rules}
use Rattle.fit_base.proofs.bits.Bits.into_vec.Goals as goal

pub returns-in-One-clause-same : goal.returns-in-One-clause-same
returns-in-One-clause-same g c = search rules
