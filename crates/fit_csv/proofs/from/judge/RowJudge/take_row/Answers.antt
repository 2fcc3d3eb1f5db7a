use Rattle.fit_csv.proofs.Common.{◌++◌, sym, subst, err_from_is_err_and, fields_of}
use Rattle.std.proofs.Common.{ℕ}
use Rattle.fit_csv.specs.inner.Judging.{HasJudged}
use Rattle.fit_csv.proofs.JudgedRows.{none-left, row-judged, row-refused}
use Rattle.fit_csv.proofs.from.judge.RowJudge.take_row.Goals as goal

pub returns-clause-judged : goal.returns-clause-judged
returns-clause-judged c whole h =
    let front = c.args.front.now in
    let back = c.args.back.now in
    let left = c.in-Some.left in
    let chain = c.judge_row.new.self.chain in
    subst (λ (n : ℕ). HasJudged whole (c.in-Some.left.0.now ++ c.in-Some.left.1.now) c.judge_row.new.self.chain n) (sym c.in_ok-judge_row.ensures.counted)
    (row-judged whole (front ++ back) (left.0.now ++ left.1.now) c.args.self.now.chain chain c.args.self.now.rows (fields_of c.read.new.self.row) h
    (rw c.in-Some.is at c.in-Ok.ensures) c.in_ok-judge_row.ensures.ok)

pub returns-in_err-judge_row-clause-err : goal.returns-in_err-judge_row-clause-err
returns-in_err-judge_row-clause-err c =
    let p = err_from_is_err_and c.from_residual.result c.from_residual.ensures.1 in
    let left = c.in-Some.left in
    rw (p.1, p.2) (λ whole h. row-refused c.text_has_one_number.ensures whole (c.args.front.now ++ c.args.back.now) (left.0.now ++ left.1.now)
    c.args.self.now.chain c.args.self.now.rows (fields_of c.read.new.self.row) c.in_err-judge_row.field-0.0 h
    (rw c.in-Some.is at c.in-Ok.ensures) c.in_err-judge_row.ensures.err)

pub returns-in_default-found-clause-judged : goal.returns-in_default-found-clause-judged
returns-in_default-found-clause-judged c whole h =
    none-left whole (c.args.front.now ++ c.args.back.now) c.args.self.now.chain c.args.self.now.rows h (rw c.in_default-found.is at c.in-Ok.ensures)
