use Rattle.fit_csv.proofs.Common.{◌++◌, ◌∙◌, length, arith, sym, subst, eqb-true, nil_from_length, err_from_is_err_and}
use Rattle.std.proofs.Common.{ℕ, List}
use Rattle.fit_csv.specs.inner.Judging.{HasJudged}
use Rattle.fit_csv.proofs.JudgedRows.{few-rows, judged-sound}
use Rattle.fit_csv.proofs.from.judge.RowJudge.take_window.Goals as goal

pub take_next-requires-clause-sound : goal.take_next-requires-clause-sound
take_next-requires-clause-sound c =
    judged-sound c.args.whole.now (c.loop.front.now ++ c.loop.back.now) c.loop.self.chain c.loop.self.rows c.loop.invariant.judged

pub take_next-requires-clause-few : goal.take_next-requires-clause-few
take_next-requires-clause-few c =
    omega (arith, few-rows c.args.whole.now (c.loop.front.now ++ c.loop.back.now) c.loop.self.chain c.loop.self.rows c.loop.invariant.judged)

pub returns-in_err-rest-clause-err : goal.returns-in_err-rest-clause-err
returns-in_err-rest-clause-err c =
    let p = err_from_is_err_and c.from_residual.result c.from_residual.ensures.1 in
    rw (p.1, p.2) (c.in_err-rest.ensures.err c.args.whole.now c.loop.invariant.judged)

pub returns-in_default-clause-judged : goal.returns-in_default-clause-judged
returns-in_default-clause-judged c = (rw c.in_default.is at c.in_ok-rest.ensures.judged) c.args.whole.now c.loop.invariant.judged

pub unreachable-requires : goal.unreachable-requires
unreachable-requires c =
    omega (
      arith,
      c.loop.invariant.more,
      c.loop-test.false,
      few-rows c.args.whole.now (c.loop.front.now ++ c.loop.back.now) c.loop.self.chain c.loop.self.rows c.loop.invariant.judged,
    )

pub returns-then-is_empty-clause-judged : goal.returns-then-is_empty-clause-judged
returns-then-is_empty-clause-judged c =
    let none = nil_from_length c.in-Some.rest.now (eqb-true (length c.in-Some.rest.now) 0 (sym c.is_empty.ensures ∙ c.if-is_empty.true)) in
    subst (λ (l : List ℕ). HasJudged c.args.whole.now (l ++ c.in-Some.left.now) c.take_next.new.self.chain c.take_next.new.self.rows) none
    ((rw c.in-Some.is at c.in_ok-rest.ensures.judged) c.args.whole.now c.loop.invariant.judged)

pub loop-init : goal.loop-init
loop-init c = record { judged = c.requires; more = omega arith }

pub loop-preserved : goal.loop-preserved
loop-preserved c =
    let more = rw c.in-Some.is at c.in_ok-rest.ensures.more in record {
      judged = (rw c.in-Some.is at c.in_ok-rest.ensures.judged) c.args.whole.now c.loop.invariant.judged;
      more = omega (arith, c.loop.invariant.more, more);
    }

pub returns-then-is_empty-clause-more : goal.returns-then-is_empty-clause-more
returns-then-is_empty-clause-more c =
    let more = rw c.in-Some.is at c.in_ok-rest.ensures.more in
    omega (arith, c.loop.invariant.more, more)
