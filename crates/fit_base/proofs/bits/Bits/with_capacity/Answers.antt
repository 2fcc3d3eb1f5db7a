use Rattle.fit_base.proofs.Common.{rules}
use Rattle.fit_base.proofs.bits.Bits.with_capacity.Goals as goal

pub returns-in_err-with_capacity-clause-one : goal.returns-in_err-with_capacity-clause-one
returns-in_err-with_capacity-clause-one g c = search rules
