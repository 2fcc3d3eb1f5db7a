use Rattle.std.proofs.Common.{arith, length}
use Rattle.std.proofs.lemmas.Result.{MatchResult-weaker, err_from_is_err_and}
use Rattle.fit_csv_text.proofs.PlainTexts.{some-left}
use Rattle.fit_csv_text.proofs.loose.take_short_then_one.Goals as goal

pub returns-in_err-left-clause-room : goal.returns-in_err-left-clause-room
returns-in_err-left-clause-room c plain small most =
    let p = err_from_is_err_and c.from_residual.result c.from_residual.ensures.1 in
    rw (p.1, p.2) (c.in_err-left.ensures.room (omega (arith, small, most)))

pub returns-clause-more : goal.returns-clause-more
returns-clause-more c small =
    MatchResult-weaker c.take_one.result c.take_one.ensures.grows (λ left h some. omega (arith, c.in_ok-left.ensures.long, h.0)) (λ e p. p)

pub returns-clause-few : goal.returns-clause-few
returns-clause-few c fits = MatchResult-weaker c.take_one.result c.take_one.ensures.grows (λ left h. h.1) (λ e p. p)

pub returns-clause-lines : goal.returns-clause-lines
returns-clause-lines c plain = c.take_one.ensures.lines (c.in_ok-left.ensures.lines plain)

pub returns-then-is_empty-clause-goes : goal.returns-then-is_empty-clause-goes
returns-then-is_empty-clause-goes c = c.in_ok-left.ensures.goes

pub returns-then-is_empty-clause-few : goal.returns-then-is_empty-clause-few
returns-then-is_empty-clause-few c = c.in_ok-left.ensures.few

pub returns-then-is_empty-clause-lines : goal.returns-then-is_empty-clause-lines
returns-then-is_empty-clause-lines c = c.in_ok-left.ensures.lines

pub returns-clause-goes : goal.returns-clause-goes
returns-clause-goes c =
    MatchResult-weaker c.take_one.result c.take_one.ensures.goes
    (λ left h text rows ends stands. h text rows ends (c.in_ok-left.ensures.goes text rows ends stands)) (λ e p. p)

pub returns-clause-room : goal.returns-clause-room
returns-clause-room c plain small most =
    c.take_one.ensures.room (c.in_ok-left.ensures.lines plain)
    (some-left (length c.in_ok-left.left.now) c.is_empty.result c.is_empty.ensures c.if-is_empty.false)
    (omega (arith, most, c.len.ensures, c.if-len-many.false))
