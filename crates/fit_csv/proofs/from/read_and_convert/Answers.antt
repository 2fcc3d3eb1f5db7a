use Rattle.fit_csv.proofs.Common.{sym, subst, err_from_is_err_and, channel, read_out, Answers}
use Rattle.std.proofs.Common.{List, ℕ}
use Rattle.fit_csv.proofs.Unwritten.{from-answers, from-unread}
use Rattle.fit_csv.proofs.from.read_and_convert.Goals as goal

pub returns-in_err-text-clause-reads : goal.returns-in_err-text-clause-reads
returns-in_err-text-clause-reads g c =
    let p = err_from_is_err_and c.from_residual.result c.from_residual.ensures.1 in
    let source = channel g.S.Source.remaining g.S.Source.has_failed c.args.source.now c.read_text.new.source in
    let sink = channel g.K.Sink.contents g.K.Sink.has_failed c.args.sink.now c.args.sink.now in
    rw (p.1, p.2) (from-unread source sink _ c.in_err-text.ensures.err)

pub returns-clause-reads : goal.returns-clause-reads
returns-clause-reads g c =
    let whole = c.in_ok-text.text.items in
    let source = channel g.S.Source.remaining g.S.Source.has_failed c.args.source.now c.read_text.new.source in
    let sink = channel g.K.Sink.contents g.K.Sink.has_failed c.args.sink.now c.from_csv_text.new.sink in
    let answers = subst (λ (t : List ℕ). Answers t (read_out t) sink c.from_csv_text.result) c.as_slice.ensures.value c.from_csv_text.ensures.answers in
    (whole, c.in_ok-text.ensures.all, from-answers whole source sink c.from_csv_text.result (c.in_ok-text.ensures.end, c.in_ok-text.ensures.works) answers)
