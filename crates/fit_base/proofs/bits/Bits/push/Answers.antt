use Rattle.fit_base.proofs.Common.{rules}
use Rattle.fit_base.proofs.bits.Bits.push.Goals as goal

pub returns-in_ok-numbers-in-One-clause-ok : goal.returns-in_ok-numbers-in-One-clause-ok
returns-in_ok-numbers-in-One-clause-ok g c = search rules
