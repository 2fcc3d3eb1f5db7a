-- What is skipped is told.
use Rattle.fit_report.proofs.Common.{channel, reverse, ap, subst, AreEvents, Seen, err_from_is_err_and, Global, chain_limit, IsViable}
use Rattle.fit_report.proofs.Pieces.{keeps_none, stops_before}
use Rattle.fit_report.proofs.Skipped.{fed_so, skips_heard}
use Rattle.fit_report.proofs.Texts.{stands_on, stops_in}
use Rattle.fit_report.proofs.telling.tell_skipped.Goals as goal

pub returns-clause-used : goal.returns-clause-used
returns-clause-used g c =
    let skips = c.in-Ok.ensures.skips in
    (skips.within, fed_so c.args.decoder.now c.skip_all.new.decoder c.args.piece.now c.in-Ok.used skips.is_fed c.requires.fresh)

pub returns-clause-passes : goal.returns-clause-passes
returns-clause-passes g c = λ told start s.
    let t = skips_heard c.in-Ok.ensures.skips c.clear.ensures.items c.as_slice.result.now c.as_slice.ensures.value s.heard s.has s.are in
    stands_on (channel g.K.Sink.contents g.K.Sink.has_failed c.args.sink.now c.put_text.new.sink) s t.0 c.as_slice.result.now t.3
    c.skip_all.new.reporter c.skip_all.new.decoder.bytes c.put_text.new.written t.1 t.2 c.in_ok-put_text.ensures.puts

pub returns-in_err-put_text-clause-passes : goal.returns-in_err-put_text-clause-passes
returns-in_err-put_text-clause-passes g c =
    let p = err_from_is_err_and c.from_residual.result c.from_residual.ensures.1 in
    let skips = c.in-Ok.ensures.skips in
    rw (p.1, p.2) (λ told start s.
    let t = skips_heard skips c.clear.ensures.items c.as_slice.result.now c.as_slice.ensures.value s.heard s.has s.are in
    stops_in (channel g.K.Sink.contents g.K.Sink.has_failed c.args.sink.now c.put_text.new.sink) s t.0 c.as_slice.result.now t.3
    c.skip_all.new.reporter c.args.piece.now c.in-Ok.used c.put_text.new.written c.in_err-put_text.field-0.0
    (subst (IsViable Global chain_limit) (ap (λ (v : Seen). v.bytes) skips.is_fed) c.skip_all.ensures.viable)
    (subst (λ b. AreEvents b (reverse t.0)) (ap (λ (v : Seen). v.bytes) skips.is_fed) t.2) c.in_err-put_text.ensures.puts)

pub returns-in_default-clause-passes : goal.returns-in_default-clause-passes
returns-in_default-clause-passes g c = λ told start s.
    stops_before c.args.decoder.now c.args.piece.now (channel g.K.Sink.contents g.K.Sink.has_failed c.args.sink.now c.args.sink.now) s
    c.skip_all.new.reporter c.in_default.ensures.wants

pub skip_all-requires-clause-told : goal.skip_all-requires-clause-told
skip_all-requires-clause-told g c = let s = c.requires.told.2 in (s.heard, s.has, s.are)

pub returns-clause-works : goal.returns-clause-works
returns-clause-works g c = c.in_ok-put_text.ensures.works

pub returns-in_err-put_text-clause-refused : goal.returns-in_err-put_text-clause-refused
returns-in_err-put_text-clause-refused g c =
    let p = err_from_is_err_and c.from_residual.result c.from_residual.ensures.1 in
    rw (p.1, p.2) (keeps_none c.args.decoder.now.bytes c.args.piece.now c.skip_all.new.decoder c.as_slice.result.now
    (channel g.K.Sink.contents g.K.Sink.has_failed c.args.sink.now c.put_text.new.sink) c.args.written.now c.put_text.new.written c.in_err-put_text.field-0.0
    c.in_err-put_text.ensures.puts)
