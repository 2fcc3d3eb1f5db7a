-- A report goes on by a piece.
use Rattle.fit_report.proofs.Common.{◌≡◌, ◌<◌, ◌≤◌, [], Appends, ◌++◌, length, sym, ap, subst, arith, length-append, Consumes, err_from_is_err_and}
use Rattle.fit_report.proofs.Common.{Seen, Channel, channel, Consumes-append, refl}
use Rattle.std.proofs.Common.{rules}
use Rattle.std.proofs.KnownBytes.{Consumes-kept}
use Rattle.fit_report.proofs.Outcomes.{piece_fault, end_fault, ate_nothing}
use Rattle.fit_report.proofs.Pieces.{hears_no_more}
use Rattle.fit_report.proofs.reporting.tell_taken.Goals as goal

pub returns-in_default-clause-tells : goal.returns-in_default-clause-tells
returns-in_default-clause-tells g c = λ begin start i.
    let s = i.stands in (
      c.args.telling.now.seen.bytes,
      s.heard,
      Consumes-kept _ _ _ c.args.telling.now.seen.bytes i.eaten c.in_default.ensures.bytes,
      ((i.counted, c.in_default.ensures.bad, i.viable), (s.are, subst (Appends start (g.K.Sink.contents c.args.sink.now)) (sym s.is_text) s.put)),
      s.has,
    )

pub returns-in_err-finish-clause-tells : goal.returns-in_err-finish-clause-tells
returns-in_err-finish-clause-tells g c =
    let p = err_from_is_err_and c.from_residual.result c.from_residual.ensures.1 in
    let same : length c.take.new.buffer ≡ length c.args.buffer.now = search rules in
    rw (p.1, p.2) (λ begin start i.
    let s = i.stands in
    let source : Channel = record (channel g.S.Source.remaining g.S.Source.has_failed c.args.source.now c.take.new.self) { before = begin } in
    let sink : Channel = record (channel g.K.Sink.contents g.K.Sink.has_failed c.args.sink.now c.args.sink.now) { before = start } in (
      c.args.telling.now.seen.bytes,
      s.heard,
      ate_nothing _ _ _ c.args.telling.now.seen.bytes _ c.in-Ok.got i.eaten c.in-Ok.ensures.bytes.0 c.if-got-eq0.true,
      end_fault g.R.Report.line c.args.telling.now.seen s.heard source sink c.finish.result c.in_err-finish.field-0.0 i.fresh i.viable
          (c.in-Ok.ensures.bytes.1 c.if-got-eq0.true (omega (arith, same, c.requires.some))) c.in-Ok.ensures.good (
            s.are,
            subst (Appends sink.before sink.after) (sym s.is_text) s.put,
          ) c.finish.ensures.good c.finish.ensures.truncated c.in_err-finish.was,
      hears_no_more g.R.Report.has_heard c.args.reporter.now s.heard c.in_err-finish.field-0.0 s.has,
    ))

pub returns-then-got-eq0-clause-tells : goal.returns-then-got-eq0-clause-tells
returns-then-got-eq0-clause-tells g c =
    let same : length c.take.new.buffer ≡ length c.args.buffer.now = search rules in (
      λ zero begin start i.
          let s = i.stands in (
            c.args.telling.now.seen.bytes,
            s.heard,
            ate_nothing _ _ _ c.args.telling.now.seen.bytes _ c.in-Ok.got i.eaten c.in-Ok.ensures.bytes.0 c.if-got-eq0.true,
            (
              c.in-Ok.ensures.bytes.1 c.if-got-eq0.true (omega (arith, same, c.requires.some)),
              c.in-Ok.ensures.good,
              (c.in_ok-finish.ensures.good.0 refl).1,
              (s.are, subst (Appends start (g.K.Sink.contents c.args.sink.now)) (sym s.is_text) s.put),
            ),
            s.has,
          ),
      λ some. absurd (omega (arith, some)),
    )

pub returns-in_err-feed-clause-tells : goal.returns-in_err-feed-clause-tells
returns-in_err-feed-clause-tells g c =
    let p = err_from_is_err_and c.from_residual-in_err-feed.result c.from_residual-in_err-feed.ensures.1 in
    let same : length c.take.new.buffer ≡ length c.args.buffer.now = search rules in
    let piece = c.split_at.result.0.now in
    let few : length piece ≤ 65536 = omega (arith, c.split_at.ensures.front_len, c.in-Ok.ensures.bound, same, c.requires.short) in
    rw (p.1, p.2) (λ begin start i.
    let source : Channel = record (channel g.S.Source.remaining g.S.Source.has_failed c.args.source.now c.take.new.self) { before = begin } in
    let sink : Channel = record (channel g.K.Sink.contents g.K.Sink.has_failed c.args.sink.now c.feed.new.sink) { before = start } in
    let told = piece_fault g.R.Report.has_heard g.R.Report.line c.args.telling.now.seen.bytes piece c.feed.new.reporter source sink few
    c.in-Ok.ensures.good i.viable c.in_err-feed.field-0.0 (c.in_err-feed.ensures.passes [] start i.stands) in (
      c.args.telling.now.seen.bytes ++ piece,
      told.0,
      Consumes-append _ _ _ c.args.telling.now.seen.bytes piece i.eaten (rw (← c.split_at.ensures.front) at c.in-Ok.ensures.bytes.0),
      told.1,
      told.2,
    ))

pub returns-clause-tells : goal.returns-clause-tells
returns-clause-tells g c =
    let piece = c.split_at.result.0.now in
    let all = ap (λ (v : Seen). v.bytes) c.in_ok-feed.ensures.all in (
      λ zero. absurd (c.if-got-eq0.false zero),
      λ some begin start i. record {
        fresh = ap (λ (v : Seen). v.refusal) c.in_ok-feed.ensures.all;
        viable = c.in_ok-feed.ensures.viable;
        counted = omega (arith, i.counted, ap length all, length-append c.args.telling.now.seen.bytes piece, c.split_at.ensures.front_len);
        eaten = subst (Consumes begin (g.S.Source.remaining c.take.new.self)) (sym all)
            (Consumes-append _ _ _ c.args.telling.now.seen.bytes piece i.eaten (rw (← c.split_at.ensures.front) at c.in-Ok.ensures.bytes.0));
        stands = c.in_ok-feed.ensures.passes [] start i.stands;
      },
    )

pub feed-requires-clause-told : goal.feed-requires-clause-told
feed-requires-clause-told g c = let (begin, start, i) = c.requires.come in ([], start, i.stands)

pub feed-requires-clause-fresh : goal.feed-requires-clause-fresh
feed-requires-clause-fresh g c = let (begin, start, i) = c.requires.come in i.fresh

pub returns-then-got-eq0-clause-ended : goal.returns-then-got-eq0-clause-ended
returns-then-got-eq0-clause-ended g c =
    let same : length c.take.new.buffer ≡ length c.args.buffer.now = search rules in
    λ zero begin start i. (
      record {
        fresh = i.fresh;
        viable = i.viable;
        counted = refl;
        eaten = ate_nothing _ _ _ c.args.telling.now.seen.bytes _ c.in-Ok.got i.eaten c.in-Ok.ensures.bytes.0 c.if-got-eq0.true;
        stands = i.stands;
      },
      (c.in_ok-finish.ensures.good.0 refl).1,
      c.in-Ok.ensures.bytes.1 c.if-got-eq0.true (omega (arith, same, c.requires.some)),
      c.in-Ok.ensures.good,
    )

pub returns-clause-ended : goal.returns-clause-ended
returns-clause-ended g c = λ zero. absurd (c.if-got-eq0.false zero)
