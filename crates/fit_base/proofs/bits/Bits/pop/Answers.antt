use Rattle.fit_base.proofs.Common.{rules}
use Rattle.fit_base.proofs.bits.Bits.pop.Goals as goal

pub returns-in-One-clause-last : goal.returns-in-One-clause-last
returns-in-One-clause-last g c = search rules
