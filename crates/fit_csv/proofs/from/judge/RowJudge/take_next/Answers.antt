use Rattle.fit_csv.proofs.Common.{◌++◌, sym, subst, refl, err_from_is_err_and, MatchResult-weaker, IsSoundChain, IsTextFault}
use Rattle.std.proofs.Common.{ℕ, ◌<◌, IfOk, IfSome}
use Rattle.fit_csv.proofs.JudgedRows.{fails-from, judges-from}
use Rattle.fit_csv.proofs.from.judge.RowJudge.take_next.Goals as goal

pub returns-in_err-left-clause-err : goal.returns-in_err-left-clause-err
returns-in_err-left-clause-err c =
    let p = err_from_is_err_and c.from_residual.result c.from_residual.ensures.1 in
    rw (p.1, p.2) (λ whole h. subst (IsTextFault whole) (sym c.in_err-left.ensures.memory) tt)

pub returns-in-Some-clause-judged : goal.returns-in-Some-clause-judged
returns-in-Some-clause-judged c = (rw c.in-Some.is at c.in_ok-left.ensures.judged) c.args.back.now

pub take_row-requires-clause-sound : goal.take_row-requires-clause-sound
take_row-requires-clause-sound c = subst IsSoundChain (sym ((rw c.in-None.is at c.in_ok-left.ensures.chain) refl)) c.requires.sound

pub returns-in-None-clause-judged : goal.returns-in-None-clause-judged
returns-in-None-clause-judged c =
    MatchResult-weaker c.take_row.result c.take_row.ensures.judged
    (λ found h. judges-from (c.args.front.now ++ c.args.back.now) c.args.self.now c.take_record.new.self
    ((rw c.in-None.is at c.in_ok-left.ensures.chain) refl) ((rw c.in-None.is at c.in_ok-left.ensures.rows) refl)
    (λ p. p.0.now ++ p.1.now) c.take_row.new.self found h)
    (λ e p. p)

pub returns-in-None-clause-err : goal.returns-in-None-clause-err
returns-in-None-clause-err c =
    MatchResult-weaker c.take_row.result c.take_row.ensures.err (λ x p. p)
    (λ fault h. fails-from (c.args.front.now ++ c.args.back.now) c.args.self.now c.take_record.new.self
    ((rw c.in-None.is at c.in_ok-left.ensures.chain) refl) ((rw c.in-None.is at c.in_ok-left.ensures.rows) refl) fault h)

pub returns-in-None-clause-more : goal.returns-in-None-clause-more
returns-in-None-clause-more c =
    subst (λ (n : ℕ). IfOk c.take_row.result (λ found. IfSome found (λ p. n < c.take_row.new.self.rows)))
    ((rw c.in-None.is at c.in_ok-left.ensures.rows) refl) c.take_row.ensures.more
