-- A report goes on piece by piece.
use Rattle.fit_report.proofs.Common.{◌<◌, ◌∙◌, arith, err_from_is_err_and, short_bytes}
use Rattle.fit_report.proofs.reporting.tell_pieces.Goals as goal

pub tell_taken-requires-clause-come : goal.tell_taken-requires-clause-come
tell_taken-requires-clause-come g c = let (begin, start, i) = c.requires.come in (begin, start, c.pieces.invariant.come begin start i)

pub returns-in_err-got-clause-reports : goal.returns-in_err-got-clause-reports
returns-in_err-got-clause-reports g c =
    let p = err_from_is_err_and c.from_residual.result c.from_residual.ensures.1 in
    rw (p.1, p.2) (λ begin start i. c.in_err-got.ensures.tells begin start (c.pieces.invariant.come begin start i))

pub returns-then-got-eq0-clause-reports : goal.returns-then-got-eq0-clause-reports
returns-then-got-eq0-clause-reports g c = λ begin start i.
    c.in_ok-got.ensures.tells.0 c.if-got-eq0.true begin start (c.pieces.invariant.come begin start i)

pub pieces-preserved : goal.pieces-preserved
pieces-preserved g c =
    let some : 0 < c.in_ok-got.got = omega (arith, c.if-got-eq0.false) in
    record {
      come = λ begin start i. c.in_ok-got.ensures.tells.1 some begin start (c.pieces.invariant.come begin start i);
      works = λ good. c.in_ok-got.ensures.works (c.pieces.invariant.works good);
      same = c.tell_taken.ensures.length ∙ c.pieces.invariant.same;
    }

pub pieces-smaller : goal.pieces-smaller
pieces-smaller g c =
    let (begin, start, i) = c.requires.come in
    let some : 0 < c.in_ok-got.got = omega (arith, c.if-got-eq0.false) in
    let next = c.in_ok-got.ensures.tells.1 some begin start (c.pieces.invariant.come begin start i) in
    omega (arith, some, next.counted, short_bytes c.tell_taken.new.telling.seen.bytes next.viable)

pub overflow_add-place : goal.overflow_add-place
overflow_add-place g c =
    let (begin, start, i) = c.requires.come in
    let now = c.pieces.invariant.come begin start i in
    omega (arith, now.counted, short_bytes c.pieces.telling.seen.bytes now.viable, c.in_ok-got.ensures.bound)

pub returns-then-got-eq0-clause-ended : goal.returns-then-got-eq0-clause-ended
returns-then-got-eq0-clause-ended g c = λ begin start i.
    c.in_ok-got.ensures.ended c.if-got-eq0.true begin start (c.pieces.invariant.come begin start i)
