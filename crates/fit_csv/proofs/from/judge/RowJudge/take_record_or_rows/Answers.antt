use Rattle.fit_csv.proofs.Common.{[], arith, sym, subst, refl, err_from_is_err_and, IsTextFault}
use Rattle.std.proofs.Common.{ℕ, ◌<◌, IfOk, IfSome}
use Rattle.fit_csv.proofs.JudgedRows.{before-it, few-rows, judged-sound, judges-whole}
use Rattle.fit_csv.proofs.from.judge.RowJudge.take_record_or_rows.Goals as goal

pub take_record-requires-clause-sound : goal.take_record-requires-clause-sound
take_record-requires-clause-sound c = judged-sound c.args.whole.now c.args.left.now c.args.self.now.chain c.args.self.now.rows c.requires

pub take_record-requires-clause-few : goal.take_record-requires-clause-few
take_record-requires-clause-few c = omega (arith, few-rows c.args.whole.now c.args.left.now c.args.self.now.chain c.args.self.now.rows c.requires)

pub returns-in_err-rest-clause-err : goal.returns-in_err-rest-clause-err
returns-in_err-rest-clause-err c =
    let p = err_from_is_err_and c.from_residual.result c.from_residual.ensures.1 in
    rw (p.1, p.2) (subst (IsTextFault c.args.whole.now) (sym c.in_err-rest.ensures.memory) tt)

pub returns-in-Some-clause-judged : goal.returns-in-Some-clause-judged
returns-in-Some-clause-judged c =
    judges-whole c.args.left.now c.in-Some.rest.now c.args.self.now c.take_record.new.self
    ((rw c.in-Some.is at c.in_ok-rest.ensures.judged) []) c.args.whole.now c.requires

pub take_other-requires : goal.take_other-requires
take_other-requires c =
    before-it c.args.left.now c.args.self.now c.take_record.new.self ((rw c.in-None.is at c.in_ok-rest.ensures.chain) refl)
    ((rw c.in-None.is at c.in_ok-rest.ensures.rows) refl) c.args.whole.now c.requires

pub returns-in-None-clause-more : goal.returns-in-None-clause-more
returns-in-None-clause-more c =
    subst (λ (n : ℕ). IfOk c.take_other.result (λ found. IfSome found (λ p. n < c.take_other.new.self.rows)))
    ((rw c.in-None.is at c.in_ok-rest.ensures.rows) refl) c.take_other.ensures.more
