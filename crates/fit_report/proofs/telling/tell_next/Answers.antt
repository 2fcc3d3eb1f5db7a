-- What is fed is told.
use Rattle.fit_report.proofs.Common.{channel, reverse, ap, ◌∙◌, subst, Err, hear, AreEvents, AreHeard, Seen, err_from_is_err_and}
use Rattle.fit_report.proofs.Common.{Global, chain_limit, IsViable}
use Rattle.fit_report.proofs.Hearing.{heard_more, heard_next, not_told, uses_some}
use Rattle.fit_report.proofs.Pieces.{keeps, keeps_none, stops, stops_before}
use Rattle.fit_report.proofs.Texts.{stands_more, stands_on, stops_in, text_told}
use Rattle.fit_report.proofs.telling.tell_next.Goals as goal

pub returns-in_err-used-clause-passes : goal.returns-in_err-used-clause-passes
returns-in_err-used-clause-passes g c =
    let p = err_from_is_err_and c.from_residual.result c.from_residual.ensures.1 in
    rw (p.1, p.2) (λ told start s.
    stops c.args.decoder.now c.args.piece.now (channel g.K.Sink.contents g.K.Sink.has_failed c.args.sink.now c.args.sink.now) s c.feed.new.self
    c.in_err-used.field-0.0 (record {
      refused = λ place reason is. c.feed.ensures.refused place reason c.requires.fresh (c.in_err-used.was ∙ ap Err is);
      memory = λ used is. c.feed.ensures.memory used (c.in_err-used.was ∙ ap Err is);
      others = λ place. (
        λ is. (c.feed.ensures.others place).0 (c.in_err-used.was ∙ ap Err is),
        λ is.
            (c.feed.ensures.others place).1 (c.in_err-used.was ∙ ap Err is),
      );
    }))

pub tell_event-requires : goal.tell_event-requires
tell_event-requires g c =
    let s = c.requires.told.2 in
    let fed = c.in_ok-used.ensures in (
      s.heard,
      s.has,
      (
        c.feed.new.self.bytes,
        fed.viable,
        heard_next c.args.decoder.now c.feed.new.self c.args.piece.now c.in_ok-used.field-0.used s.heard c.in_ok-used.field-0.event fed.used.1
            (record { more = fed.more; event = fed.event }) s.are,
      ),
    )

pub returns-clause-some : goal.returns-clause-some
returns-clause-some g c =
    uses_some c.args.decoder.now.bytes c.args.piece.now c.in_ok-used.field-0.used c.in_ok-used.field-0.event
    (record { more = c.in_ok-used.ensures.more; event = c.in_ok-used.ensures.event })

pub returns-clause-passes : goal.returns-clause-passes
returns-clause-passes g c = λ told start s.
    let fed = c.in_ok-used.ensures in
    let event = c.in_ok-used.field-0.event in
    let are = heard_next c.args.decoder.now c.feed.new.self c.args.piece.now c.in_ok-used.field-0.used s.heard event fed.used.1
    (record { more = fed.more; event = fed.event }) s.are in
    let heard : AreHeard (hear event s.heard) = (c.feed.new.self.bytes, fed.viable, are) in
    stands_on (channel g.K.Sink.contents g.K.Sink.has_failed c.args.sink.now c.put_text.new.sink) s (hear event s.heard) c.as_slice.result.now
    (text_told g.R.Report.line s.heard event c.clear.new.self.items c.tell_event.new.text.items c.as_slice.result.now c.clear.ensures.items
    (c.in-Ok.ensures.text s.heard s.has heard) c.as_slice.ensures.value)
    c.tell_event.new.reporter c.feed.new.self.bytes c.put_text.new.written (c.in-Ok.ensures.heard s.heard s.has heard) are c.in_ok-put_text.ensures.puts

pub returns-in_err-put_text-clause-passes : goal.returns-in_err-put_text-clause-passes
returns-in_err-put_text-clause-passes g c =
    let p = err_from_is_err_and c.from_residual-in_err-put_text.result c.from_residual-in_err-put_text.ensures.1 in
    let fed = c.in_ok-used.ensures in
    let event = c.in_ok-used.field-0.event in
    rw (p.1, p.2) (λ told start s.
    let are = heard_next c.args.decoder.now c.feed.new.self c.args.piece.now c.in_ok-used.field-0.used s.heard event fed.used.1
    (record { more = fed.more; event = fed.event }) s.are in
    stops_in (channel g.K.Sink.contents g.K.Sink.has_failed c.args.sink.now c.put_text.new.sink) s (hear event s.heard) c.as_slice.result.now
    (text_told g.R.Report.line s.heard event c.clear.new.self.items c.tell_event.new.text.items c.as_slice.result.now c.clear.ensures.items
    (c.in-Ok.ensures.text s.heard s.has (c.feed.new.self.bytes, fed.viable, are)) c.as_slice.ensures.value)
    c.tell_event.new.reporter c.args.piece.now c.in_ok-used.field-0.used c.put_text.new.written c.in_err-put_text.field-0.0
    (subst (IsViable Global chain_limit) (ap (λ (v : Seen). v.bytes) fed.used.1) fed.viable)
    (subst (λ b. AreEvents b (reverse (hear event s.heard))) (ap (λ (v : Seen). v.bytes) fed.used.1) are) c.in_err-put_text.ensures.puts)

pub returns-in-More-clause-passes : goal.returns-in-More-clause-passes
returns-in-More-clause-passes g c = λ told start s.
    let fed = c.in_ok-used.ensures in
    stands_more c.feed.new.self.bytes
    (heard_more c.args.decoder.now c.feed.new.self c.args.piece.now c.in_ok-used.field-0.used c.in_ok-used.field-0.event c.in-More.is fed.used.1
    (record { more = fed.more; event = fed.event })) s

pub returns-in_default-tell_event-clause-passes : goal.returns-in_default-tell_event-clause-passes
returns-in_default-tell_event-clause-passes g c = λ told start s.
    let fed = c.in_ok-used.ensures in
    stops_before c.args.decoder.now c.args.piece.now (channel g.K.Sink.contents g.K.Sink.has_failed c.args.sink.now c.args.sink.now) s c.tell_event.new.reporter
    (not_told c.args.decoder.now c.feed.new.self c.args.piece.now c.in_ok-used.field-0.used c.in_ok-used.field-0.event c.in_default.not-More fed.used.1
    fed.used.0 (record { more = fed.more; event = fed.event }) fed.viable)

pub returns-in-More-clause-used : goal.returns-in-More-clause-used
returns-in-More-clause-used g c = c.in_ok-used.ensures.used

pub returns-in-More-clause-some : goal.returns-in-More-clause-some
returns-in-More-clause-some g c =
    uses_some c.args.decoder.now.bytes c.args.piece.now c.in_ok-used.field-0.used c.in_ok-used.field-0.event
    (record { more = c.in_ok-used.ensures.more; event = c.in_ok-used.ensures.event })

pub returns-clause-used : goal.returns-clause-used
returns-clause-used g c = c.in_ok-used.ensures.used

pub returns-clause-works : goal.returns-clause-works
returns-clause-works g c = c.in_ok-put_text.ensures.works

pub returns-in_err-used-clause-refused : goal.returns-in_err-used-clause-refused
returns-in_err-used-clause-refused g c =
    let p = err_from_is_err_and c.from_residual.result c.from_residual.ensures.1 in
    rw (p.1, p.2) (keeps Global c.args.decoder.now c.args.piece.now c.feed.new.self c.in_err-used.field-0.0 (record {
      refused = λ place reason is. c.feed.ensures.refused place reason c.requires.fresh (c.in_err-used.was ∙ ap Err is);
      memory = λ used is. c.feed.ensures.memory used (c.in_err-used.was ∙ ap Err is);
      others = λ place. (
        λ is. (c.feed.ensures.others place).0 (c.in_err-used.was ∙ ap Err is),
        λ is.
            (c.feed.ensures.others place).1 (c.in_err-used.was ∙ ap Err is),
      );
    }))

pub returns-in_err-put_text-clause-refused : goal.returns-in_err-put_text-clause-refused
returns-in_err-put_text-clause-refused g c =
    let p = err_from_is_err_and c.from_residual-in_err-put_text.result c.from_residual-in_err-put_text.ensures.1 in
    rw (p.1, p.2) (keeps_none c.args.decoder.now.bytes c.args.piece.now c.feed.new.self c.as_slice.result.now
    (channel g.K.Sink.contents g.K.Sink.has_failed c.args.sink.now c.put_text.new.sink) c.args.written.now c.put_text.new.written c.in_err-put_text.field-0.0
    c.in_err-put_text.ensures.puts)
