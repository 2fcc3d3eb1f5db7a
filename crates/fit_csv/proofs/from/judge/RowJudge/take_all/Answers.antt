use Rattle.fit_csv.proofs.Common.{◌∙◌, sym, subst, err_from_is_err_and, Chain}
use Rattle.std.proofs.Common.{ℕ}
use Rattle.fit_csv.specs.inner.Judging.{HasJudged}
use Rattle.fit_csv.proofs.from.judge.RowJudge.take_all.Goals as goal

pub returns-in_err-left-clause-err : goal.returns-in_err-left-clause-err
returns-in_err-left-clause-err c =
    let p = err_from_is_err_and c.from_residual.result c.from_residual.ensures.1 in
    rw (p.1, p.2) (c.in_err-left.ensures.err c.args.text.now (sym c.without_mark.ensures))

pub take_rest-requires : goal.take_rest-requires
take_rest-requires c =
    let judged = c.in_ok-left.ensures.ok c.args.text.now (sym c.without_mark.ensures) in
    subst (λ (n : ℕ). HasJudged c.args.text.now c.in_ok-left.left.now c.take_first_line.new.self.chain n)
    (sym (c.in_ok-left.ensures.rows ∙ c.requires.rows))
    (subst (λ (t : Chain). HasJudged c.args.text.now c.in_ok-left.left.now t 1) (sym (c.in_ok-left.ensures.chain ∙ c.requires.chain)) judged)
