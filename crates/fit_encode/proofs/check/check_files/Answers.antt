use Rattle.fit_encode.proofs.Common.{arith, err_from_is_err_and, sym, ◌∙◌, inr, length, eqb-true, subst, take_all, AllByRecursion, IsWellFormed}
use Rattle.fit_encode.proofs.FaultSteps.{file_or, next_good}
use Rattle.std.proofs.lemmas.Bool.{eqb-false}
use Rattle.fit_encode.proofs.check.check_files.Goals.{then-is_empty-via-then-is_empty, then-is_empty-via-else-is_empty+then-files}
use Rattle.fit_encode.proofs.check.check_files.Goals as goal

pub returns-in_err-check_file-clause-err : goal.returns-in_err-check_file-clause-err
returns-in_err-check_file-clause-err g c =
    let p = err_from_is_err_and c.from_residual.result c.from_residual.ensures.1 in
    rw (p.1, p.2)
    (file_or c.args.files.now c.loop-place.place c.index-files-place.result _ c.loop-place-test.true c.index-files-place.is (omega arith, omega arith)
    c.loop-place.invariant
    c.in_err-check_file.ensures.err)

pub loop-place-preserved : goal.loop-place-preserved
loop-place-preserved g c =
    next_good c.args.files.now c.loop-place.place c.index-files-place.result c.loop-place-test.true c.index-files-place.is c.loop-place.invariant
    c.in_ok-check_file.ensures.ok.0

pub returns-in_err-check_file-clause-ok : goal.returns-in_err-check_file-clause-ok
returns-in_err-check_file-clause-ok g c = let p = err_from_is_err_and c.from_residual.result c.from_residual.ensures.1 in rw p.1 tt

pub returns-clause-ok : goal.returns-clause-ok
returns-clause-ok g c = record {
  some = omega (arith, eqb-false (length c.args.files.now) 0 (sym c.is_empty.ensures ∙ c.if-is_empty.false));
  within = c.if-files.false;
  each = subst (AllByRecursion IsWellFormed) (take_all c.loop-place.place c.args.files.now c.loop-place-test.false) c.loop-place.invariant;
}

pub returns-then-is_empty-clause-err : goal.returns-then-is_empty-clause-err
returns-then-is_empty-clause-err g c = inr (λ allowed. elim c.then-is_empty.branch [
  | then-is_empty-via-then-is_empty w ↦ omega (arith, eqb-true (length c.args.files.now) 0 (sym c.is_empty.ensures ∙ w.if-is_empty.true), allowed.0)
  | then-is_empty-via-else-is_empty+then-files w ↦ omega (arith, w.if-files.true, allowed.1)
])

pub loop-place-init : goal.loop-place-init
loop-place-init g c = tt

pub returns-clause-err : goal.returns-clause-err
returns-clause-err g c = tt

pub returns-then-is_empty-clause-ok : goal.returns-then-is_empty-clause-ok
returns-then-is_empty-clause-ok g c = tt
