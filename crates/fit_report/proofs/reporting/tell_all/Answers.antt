-- A report begins with two short pieces.
use Rattle.fit_report.proofs.Common.{◌<◌, arith, err_from_is_err_and}
use Rattle.std.proofs.lemmas.Result.{on_ok_weaker}
use Rattle.fit_report.proofs.Outcomes.{after_first, comes_to_nothing}
use Rattle.fit_report.proofs.reporting.tell_all.Goals as goal

pub tell_taken-requires-clause-come : goal.tell_taken-requires-clause-come
tell_taken-requires-clause-come g c =
    let begin = g.S.Source.remaining c.args.source.now in
    let start = g.K.Sink.contents c.args.sink.now in
    (begin, start, comes_to_nothing g.R.Report.has_heard g.R.Report.line c.args.reporter.now c.args.telling.now begin start c.requires.fresh c.requires.heard)

pub returns-in_err-first-clause-reports : goal.returns-in_err-first-clause-reports
returns-in_err-first-clause-reports g c =
    let p = err_from_is_err_and c.from_residual.result c.from_residual.ensures.1 in
    let begin = g.S.Source.remaining c.args.source.now in
    let start = g.K.Sink.contents c.args.sink.now in
    rw (p.1, p.2) (c.in_err-first.ensures.tells begin start
    (comes_to_nothing g.R.Report.has_heard g.R.Report.line c.args.reporter.now c.args.telling.now begin start c.requires.fresh c.requires.heard))

pub returns-then-first-eq0-clause-reports : goal.returns-then-first-eq0-clause-reports
returns-then-first-eq0-clause-reports g c =
    let begin = g.S.Source.remaining c.args.source.now in
    let start = g.K.Sink.contents c.args.sink.now in
    c.in_ok-first.ensures.tells.0 c.if-first-eq0.true begin start
    (comes_to_nothing g.R.Report.has_heard g.R.Report.line c.args.reporter.now c.args.telling.now begin start c.requires.fresh c.requires.heard)

pub tell_taken-requires-2-clause-come : goal.tell_taken-requires-2-clause-come
tell_taken-requires-2-clause-come g c =
    let begin = g.S.Source.remaining c.args.source.now in
    let start = g.K.Sink.contents c.args.sink.now in
    let some : 0 < c.in_ok-first.first = omega (arith, c.if-first-eq0.false) in (
      begin,
      start,
      after_first c.in_ok-first.first (c.in_ok-first.ensures.tells.1 some begin start
          (comes_to_nothing g.R.Report.has_heard g.R.Report.line c.args.reporter.now c.args.telling.now begin start c.requires.fresh c.requires.heard)),
    )

pub returns-in_err-second-clause-reports : goal.returns-in_err-second-clause-reports
returns-in_err-second-clause-reports g c =
    let p = err_from_is_err_and c.from_residual-in_err-second.result c.from_residual-in_err-second.ensures.1 in
    let begin = g.S.Source.remaining c.args.source.now in
    let start = g.K.Sink.contents c.args.sink.now in
    let some : 0 < c.in_ok-first.first = omega (arith, c.if-first-eq0.false) in
    rw (p.1, p.2) (c.in_err-second.ensures.tells begin start (after_first c.in_ok-first.first (c.in_ok-first.ensures.tells.1 some begin start
    (comes_to_nothing g.R.Report.has_heard g.R.Report.line c.args.reporter.now c.args.telling.now begin start c.requires.fresh c.requires.heard))))

pub returns-then-second-eq0-clause-reports : goal.returns-then-second-eq0-clause-reports
returns-then-second-eq0-clause-reports g c =
    let begin = g.S.Source.remaining c.args.source.now in
    let start = g.K.Sink.contents c.args.sink.now in
    let some : 0 < c.in_ok-first.first = omega (arith, c.if-first-eq0.false) in
    c.in_ok-second.ensures.tells.0 c.if-second-eq0.true begin start (after_first c.in_ok-first.first (c.in_ok-first.ensures.tells.1 some begin start
    (comes_to_nothing g.R.Report.has_heard g.R.Report.line c.args.reporter.now c.args.telling.now begin start c.requires.fresh c.requires.heard)))

pub tell_rest-requires-clause-come : goal.tell_rest-requires-clause-come
tell_rest-requires-clause-come g c =
    let begin = g.S.Source.remaining c.args.source.now in
    let start = g.K.Sink.contents c.args.sink.now in
    let some : 0 < c.in_ok-first.first = omega (arith, c.if-first-eq0.false) in
    let more : 0 < c.in_ok-second.second = omega (arith, c.if-second-eq0.false) in (
      begin,
      start,
      c.in_ok-second.ensures.tells.1 more begin start (after_first c.in_ok-first.first (c.in_ok-first.ensures.tells.1 some begin start
          (comes_to_nothing g.R.Report.has_heard g.R.Report.line c.args.reporter.now c.args.telling.now begin start c.requires.fresh c.requires.heard))),
    )

pub returns-clause-reports : goal.returns-clause-reports
returns-clause-reports g c =
    let begin = g.S.Source.remaining c.args.source.now in
    let start = g.K.Sink.contents c.args.sink.now in
    let some : 0 < c.in_ok-first.first = omega (arith, c.if-first-eq0.false) in
    let more : 0 < c.in_ok-second.second = omega (arith, c.if-second-eq0.false) in
    c.tell_rest.ensures.reports begin start (c.in_ok-second.ensures.tells.1 more begin start
    (after_first c.in_ok-first.first (c.in_ok-first.ensures.tells.1 some begin start
    (comes_to_nothing g.R.Report.has_heard g.R.Report.line c.args.reporter.now c.args.telling.now begin start c.requires.fresh c.requires.heard))))

pub returns-then-first-eq0-clause-ended : goal.returns-then-first-eq0-clause-ended
returns-then-first-eq0-clause-ended g c =
    let begin = g.S.Source.remaining c.args.source.now in
    let start = g.K.Sink.contents c.args.sink.now in
    c.in_ok-first.ensures.ended c.if-first-eq0.true begin start
    (comes_to_nothing g.R.Report.has_heard g.R.Report.line c.args.reporter.now c.args.telling.now begin start c.requires.fresh c.requires.heard)

pub returns-then-second-eq0-clause-ended : goal.returns-then-second-eq0-clause-ended
returns-then-second-eq0-clause-ended g c =
    let begin = g.S.Source.remaining c.args.source.now in
    let start = g.K.Sink.contents c.args.sink.now in
    let some : 0 < c.in_ok-first.first = omega (arith, c.if-first-eq0.false) in
    c.in_ok-second.ensures.ended c.if-second-eq0.true begin start (after_first c.in_ok-first.first (c.in_ok-first.ensures.tells.1 some begin start
    (comes_to_nothing g.R.Report.has_heard g.R.Report.line c.args.reporter.now c.args.telling.now begin start c.requires.fresh c.requires.heard)))

pub returns-clause-ended : goal.returns-clause-ended
returns-clause-ended g c =
    let begin = g.S.Source.remaining c.args.source.now in
    let start = g.K.Sink.contents c.args.sink.now in
    let some : 0 < c.in_ok-first.first = omega (arith, c.if-first-eq0.false) in
    let more : 0 < c.in_ok-second.second = omega (arith, c.if-second-eq0.false) in
    on_ok_weaker c.tell_rest.result (λ ended. ended begin start (c.in_ok-second.ensures.tells.1 more begin start
    (after_first c.in_ok-first.first (c.in_ok-first.ensures.tells.1 some begin start
    (comes_to_nothing g.R.Report.has_heard g.R.Report.line c.args.reporter.now c.args.telling.now begin start c.requires.fresh c.requires.heard)))))
    c.tell_rest.ensures.ended
