use Rattle.std.proofs.lemmas.Result.{IfOk-from_err}
use Rattle.fit_numbers.proofs.Common.{arith}
use Rattle.fit_numbers.proofs.PutFacts.{used_only}
use Rattle.fit_numbers.proofs.put.put_three.Goals as goal

pub all_digits-used-requires : goal.all_digits-used-requires
all_digits-used-requires c = c.requires

pub returns-in_err-extend_from_slice-clause-ok : goal.returns-in_err-extend_from_slice-clause-ok
returns-in_err-extend_from_slice-clause-ok c = IfOk-from_err c.from_residual.result _ c.from_residual.ensures.0

pub returns-clause-ok : goal.returns-clause-ok
returns-clause-ok c = grind (arith, used_only)
