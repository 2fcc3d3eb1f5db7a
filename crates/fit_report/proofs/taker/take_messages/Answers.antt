use Rattle.fit_report.proofs.Common.{append-nil, arith, err_from_is_err_and, subst, sym}
use Rattle.std.proofs.lemmas.Result.{IfOk-weaker}
use Rattle.fit_report.proofs.TakenMessages.{skips_taken, skips_then}
use Rattle.fit_report.proofs.taker.take_messages.Goals as goal

pub take_each-requires-clause-told : goal.take_each-requires-clause-told
take_each-requires-clause-told g c =
    let (heard, here, are) = c.requires.told in
    (heard, subst (λ r. g.T.MessageTaker.has_heard r heard) (sym (c.in_ok-used.ensures.takes.none c.if-used-eq0.true).0) here, are)

pub returns-then-used-eq0-clause-skips : goal.returns-then-used-eq0-clause-skips
returns-then-used-eq0-clause-skips g c =
    IfOk-weaker c.take_each.result _ _ (λ n skips. skips_then g.T.MessageTaker.has_heard g.T.MessageTaker.line c.args.decoder.now c.args.piece.now
    c.in_ok-used.ensures.takes c.take_each.new.decoder c.take_each.new.taker c.take_each.new.text.items n c.if-used-eq0.true skips)
    c.take_each.ensures.skips

pub returns-in_err-used-clause-memory : goal.returns-in_err-used-clause-memory
returns-in_err-used-clause-memory g c =
    let p = err_from_is_err_and c.from_residual.result c.from_residual.ensures.1 in
    rw p.1 (0, omega arith, λ i. record c.args.decoder.now { bytes = sym (append-nil c.args.decoder.now.bytes) i })

pub skip_messages-requires : goal.skip_messages-requires
skip_messages-requires g c = (omega arith, (c.in_ok-used.ensures.takes.records, c.in_ok-used.ensures.takes.follow))

pub returns-clause-skips : goal.returns-clause-skips
returns-clause-skips g c =
    skips_taken g.T.MessageTaker.has_heard g.T.MessageTaker.line c.args.decoder.now c.args.piece.now c.in_ok-used.ensures.takes c.skip_messages.new.self
    (omega (arith, c.if-used-eq0.false)) c.skip_messages.ensures.used c.skip_messages.ensures.events
