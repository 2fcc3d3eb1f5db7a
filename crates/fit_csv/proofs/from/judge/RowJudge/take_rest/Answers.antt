use Rattle.fit_csv.proofs.Common.{arith, sym, subst, err_from_is_err_and, MatchResult-weaker, IsTextFault, CsvFault}
use Rattle.fit_csv.proofs.JudgedRows.{all-judged, cut-off-after, few-rows}
use Rattle.fit_csv.proofs.from.judge.RowJudge.take_rest.Goals as goal

pub loop-init : goal.loop-init
loop-init c = record { judged = c.requires; more = omega (arith, c.requires.counted) }

pub take_record_or_rows-requires : goal.take_record_or_rows-requires
take_record_or_rows-requires c = c.loop.invariant.judged

pub returns-in_err-rest-clause-err : goal.returns-in_err-rest-clause-err
returns-in_err-rest-clause-err c =
    let p = err_from_is_err_and c.from_residual.result c.from_residual.ensures.1 in
    rw (p.1, p.2) c.in_err-rest.ensures.err

pub check_end-requires : goal.check_end-requires
check_end-requires c =
    omega (
      arith,
      few-rows c.args.whole.now _ c.take_record_or_rows.new.self.chain c.take_record_or_rows.new.self.rows
          (rw c.in_default.is at c.in_ok-rest.ensures.judged),
    )

pub returns-in_default-clause-ok : goal.returns-in_default-clause-ok
returns-in_default-clause-ok c =
    let judged = rw c.in_default.is at c.in_ok-rest.ensures.judged in
    MatchResult-weaker c.check_end.result c.check_end.ensures.ok
    (λ done h. all-judged c.args.whole.now c.take_record_or_rows.new.self.chain c.take_record_or_rows.new.self.rows judged h.0 h.1)
    (λ fault p. p)

pub returns-in_default-clause-err : goal.returns-in_default-clause-err
returns-in_default-clause-err c =
    let judged = rw c.in_default.is at c.in_ok-rest.ensures.judged in
    MatchResult-weaker c.check_end.result c.check_end.ensures.err (λ done p. p)
    (λ fault h. subst (λ (f : CsvFault). IsTextFault c.args.whole.now f) (sym h.0)
    (cut-off-after c.text_has_one_number.ensures c.args.whole.now c.take_record_or_rows.new.self.chain c.take_record_or_rows.new.self.rows judged h.1))

pub loop-preserved : goal.loop-preserved
loop-preserved c =
    let more = rw c.in-Some.is at c.in_ok-rest.ensures.more in record {
      judged = rw c.in-Some.is at c.in_ok-rest.ensures.judged;
      more = omega (arith, c.loop.invariant.more, more);
    }

pub unreachable-requires : goal.unreachable-requires
unreachable-requires c =
    omega (
      arith,
      c.loop.invariant.more,
      c.loop-test.false,
      few-rows c.args.whole.now c.loop.left.now c.loop.self.chain c.loop.self.rows c.loop.invariant.judged,
    )
