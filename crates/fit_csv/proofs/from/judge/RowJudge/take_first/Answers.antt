use Rattle.fit_csv.proofs.Common.{arith, sym, subst, err_from_is_err_and, fields_of}
use Rattle.std.proofs.Common.{ℕ}
use Rattle.fit_csv.specs.inner.Judging.{HasJudged}
use Rattle.fit_csv.proofs.JudgedRows.{few-rows, judged-sound, none-left, row-judged, row-refused}
use Rattle.fit_csv.proofs.from.judge.RowJudge.take_first.Goals as goal

pub judge_row-requires-clause-sound : goal.judge_row-requires-clause-sound
judge_row-requires-clause-sound c = judged-sound c.args.whole.now c.args.left.now c.args.self.now.chain c.args.self.now.rows c.requires

pub judge_row-requires-clause-few : goal.judge_row-requires-clause-few
judge_row-requires-clause-few c = omega (arith, few-rows c.args.whole.now c.args.left.now c.args.self.now.chain c.args.self.now.rows c.requires)

pub returns-clause-judged : goal.returns-clause-judged
returns-clause-judged c =
    subst (λ (n : ℕ). HasJudged c.args.whole.now c.in-Some.rest.now c.judge_row.new.self.chain n) (sym c.in_ok-judge_row.ensures.counted)
    (row-judged c.args.whole.now c.args.left.now c.in-Some.rest.now c.args.self.now.chain c.judge_row.new.self.chain c.args.self.now.rows
    (fields_of c.read_one.new.self.row) c.requires (rw c.in-Some.is at c.in-Ok.ensures) c.in_ok-judge_row.ensures.ok)

pub returns-in_err-judge_row-clause-err : goal.returns-in_err-judge_row-clause-err
returns-in_err-judge_row-clause-err c =
    let p = err_from_is_err_and c.from_residual.result c.from_residual.ensures.1 in
    rw (p.1, p.2) (row-refused c.text_has_one_number.ensures c.args.whole.now c.args.left.now c.in-Some.rest.now c.args.self.now.chain c.args.self.now.rows
    (fields_of c.read_one.new.self.row) c.in_err-judge_row.field-0.0 c.requires (rw c.in-Some.is at c.in-Ok.ensures) c.in_err-judge_row.ensures.err)

pub returns-in_default-found-clause-judged : goal.returns-in_default-found-clause-judged
returns-in_default-found-clause-judged c =
    none-left c.args.whole.now c.args.left.now c.args.self.now.chain c.args.self.now.rows c.requires (rw c.in_default-found.is at c.in-Ok.ensures)
