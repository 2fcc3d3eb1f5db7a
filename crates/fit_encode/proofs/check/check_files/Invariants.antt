use Rattle.fit_encode.proofs.Common.{take, AllByRecursion, IsWellFormed}
use Rattle.fit_encode.proofs.check.check_files.Given as goal

abbrev pub invariant-loop-place : goal.invariant-loop-place
invariant-loop-place g l = AllByRecursion IsWellFormed (take l.place l.files)
