use Rattle.fit_report.proofs.Common.{◌+◌, ◌<◌, ap, arith, err_from_is_err_and, length, length-drop, reverse}
use Rattle.fit_report.proofs.Skipped.{fed_further, skips_nothing, skips_on}
use Rattle.fit_report.proofs.SkippedMessages.{skips_message}
use Rattle.fit_report.proofs.taker.take_each.Goals as goal

pub messages-init : goal.messages-init
messages-init g c = record { skips = skips_nothing; viable = c.requires.viable }

pub take-requires-clause-message : goal.take-requires-clause-message
take-requires-clause-message g c =
    let (heard, here, are) = c.requires.told in
    let t = c.messages.invariant.skips.told heard here are in
    let m = c.skip_message-size.ensures.message (omega (arith, c.if-size-eq0.false)) (reverse t.0) t.2 in
    (t.0, m.0, t.1, m.1)

pub messages-preserved : goal.messages-preserved
messages-preserved g c =
    let some : 0 < c.skip_message-size.result = omega (arith, c.if-size-eq0.false) in record {
      skips = skips_on c.messages.invariant.skips c.split_at.ensures.back
          (skips_message g.T.MessageTaker.has_heard g.T.MessageTaker.line c.messages.decoder c.skip_message-size.new.self c.split_at.result.1.now
          c.skip_message-size.result c.skip_message-size.ensures.used c.skip_message-size.ensures.refused c.messages.taker c.take.new.self
          c.messages.text.items c.take.new.text.items some c.skip_message-size.ensures.within (c.skip_message-size.ensures.message some)
          (λ heard v here is. (c.in_ok-take.ensures.heard heard v here is, c.in_ok-take.ensures.text heard v here is)));
      viable = c.skip_message-size.ensures.viable;
    }

pub returns-then-len-ge-FULL_TEXT-clause-skips : goal.returns-then-len-ge-FULL_TEXT-clause-skips
returns-then-len-ge-FULL_TEXT-clause-skips g c =
    let some : 0 < c.skip_message-size.result = omega (arith, c.if-size-eq0.false) in
    skips_on c.messages.invariant.skips c.split_at.ensures.back
    (skips_message g.T.MessageTaker.has_heard g.T.MessageTaker.line c.messages.decoder c.skip_message-size.new.self c.split_at.result.1.now
    c.skip_message-size.result c.skip_message-size.ensures.used c.skip_message-size.ensures.refused c.messages.taker c.take.new.self
    c.messages.text.items c.take.new.text.items some c.skip_message-size.ensures.within (c.skip_message-size.ensures.message some)
    (λ heard v here is. (c.in_ok-take.ensures.heard heard v here is, c.in_ok-take.ensures.text heard v here is)))

pub returns-in_err-take-clause-memory : goal.returns-in_err-take-clause-memory
returns-in_err-take-clause-memory g c =
    let p = err_from_is_err_and c.from_residual.result c.from_residual.ensures.1 in
    let skips = c.messages.invariant.skips in
    rw p.1 (
      c.messages.at + c.skip_message-size.result,
      omega (arith, skips.within, c.skip_message-size.ensures.within, ap length c.split_at.ensures.back, length-drop c.messages.at c.args.piece.now),
      fed_further c.args.decoder.now c.messages.decoder c.skip_message-size.new.self c.args.piece.now c.split_at.result.1.now c.messages.at
          c.skip_message-size.result skips.is_fed c.split_at.ensures.back c.skip_message-size.ensures.used,
    )
