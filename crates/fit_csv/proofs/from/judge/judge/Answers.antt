use Rattle.fit_csv.proofs.Common.{err_from_is_err_and}
use Rattle.fit_csv.proofs.from.judge.judge.Goals as goal

pub returns-in_err-judge_rows-clause-err : goal.returns-in_err-judge_rows-clause-err
returns-in_err-judge_rows-clause-err c =
    let p = err_from_is_err_and c.from_residual.result c.from_residual.ensures.1 in
    rw (p.1, p.2) c.in_err-judge_rows.ensures.err

pub returns-clause-ok : goal.returns-clause-ok
returns-clause-ok c = c.in_ok-judge_rows.ensures.ok
