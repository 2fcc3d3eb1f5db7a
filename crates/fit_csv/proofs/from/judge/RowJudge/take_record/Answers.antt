use Rattle.fit_csv.proofs.Common.{arith}
use Rattle.fit_csv.specs.inner.Judging.{TakesRows}
use Rattle.fit_csv.proofs.JudgedRows.{few-taken, record-judged}
use Rattle.fit_csv.proofs.from.judge.RowJudge.take_record.Goals as goal

pub returns-clause-judged : goal.returns-clause-judged
returns-clause-judged c after whole h =
    record-judged whole c.args.text.now c.in-Some.left.now after c.args.self.now.chain c.take_record.new.chain c.args.self.now.rows c.in-Some.count
    (rw c.in-Some.is at c.in-Ok.ensures.rows) h

pub returns-clause-more : goal.returns-clause-more
returns-clause-more c =
    let goes : TakesRows c.args.text.now c.in-Some.left.now c.in-Some.count c.args.self.now.chain c.take_record.new.chain =
    rw c.in-Some.is at c.in-Ok.ensures.rows in
    omega (arith, goes.more)

pub overflow_add-self : goal.overflow_add-self
overflow_add-self c =
    omega (
      arith,
      c.requires.few,
      few-taken c.args.text.now c.in-Some.left.now c.in-Some.count c.args.self.now.chain c.take_record.new.chain
          (rw c.in-Some.is at c.in-Ok.ensures.rows),
    )
