use Rattle.fit_csv.proofs.Common.{refl, err_from_is_err_and}
use Rattle.fit_csv.proofs.from.judge.RowJudge.judge_row.Goals as goal

pub returns-in_err-judge_row-clause-err : goal.returns-in_err-judge_row-clause-err
returns-in_err-judge_row-clause-err c =
    let p = err_from_is_err_and c.from_residual.result c.from_residual.ensures.1 in
    rw (p.1, p.2) c.in_err-judge_row.ensures.err

pub returns-clause-counted : goal.returns-clause-counted
returns-clause-counted c = refl

pub returns-clause-ok : goal.returns-clause-ok
returns-clause-ok c = c.in_ok-judge_row.ensures.ok
