use Rattle.fit_report.proofs.Common.{◌<◌, ◌∙◌, ℕ, ap, arith, subst, sym}
use Rattle.fit_decode.specs.Answers.{LookedAhead}
use Rattle.fit_report.specs.inner.Taking.{TakesAhead}
use Rattle.fit_report.proofs.TakenMessages.{ahead_on, may_take, next_ends, next_here, next_within, rest_at, takes_more, takes_nothing}
use Rattle.fit_report.proofs.taker.take_ahead.Goals as goal

pub messages-init : goal.messages-init
messages-init g c =
    let begun = c.look_ahead-ahead.ensures in
    let none = ap (λ (a : LookedAhead). a.used) begun in
    let has = g.T.MessageTaker.has_heard in
    record {
      is = begun ∙ ap (λ (n : ℕ). record { fed = c.args.decoder.now; piece = c.args.piece.now; used = n }) (sym none);
      takes = subst (λ n. TakesAhead has g.T.MessageTaker.line c.args.decoder.now c.args.piece.now c.args.taker.now c.args.taker.now c.args.text.now.items
          c.args.text.now.items n) (sym none)
          (takes_nothing has g.T.MessageTaker.line c.args.decoder.now c.args.piece.now c.args.taker.now c.args.text.now.items);
    }

pub take-requires-clause-within : goal.take-requires-clause-within
take-requires-clause-within g c =
    let some : 0 < c.next-size.result = omega (arith, c.if-size-eq0.false) in
    let next = next_here c.messages.ahead c.args.decoder.now c.args.piece.now c.next-size.result c.messages.invariant.is (c.next-size.ensures.message some) in
    let left = rest_at c.split_at.result.1.now c.args.piece.now c.used-at.result c.messages.ahead.used c.split_at.ensures.back c.used-at.ensures in
    next_within g.T.MessageTaker.has_heard g.T.MessageTaker.line c.args.decoder.now c.args.piece.now c.messages.invariant.takes c.next-size.result
    c.split_at.result.1.now next left

pub take-requires-clause-message : goal.take-requires-clause-message
take-requires-clause-message g c =
    let some : 0 < c.next-size.result = omega (arith, c.if-size-eq0.false) in
    let next = next_here c.messages.ahead c.args.decoder.now c.args.piece.now c.next-size.result c.messages.invariant.is (c.next-size.ensures.message some) in
    let left = rest_at c.split_at.result.1.now c.args.piece.now c.used-at.result c.messages.ahead.used c.split_at.ensures.back c.used-at.ensures in
    let (heard, here, are) = c.requires in
    may_take g.T.MessageTaker.has_heard g.T.MessageTaker.line c.args.decoder.now c.args.piece.now c.messages.invariant.takes c.next-size.result
    c.split_at.result.1.now next left heard here are

pub messages-preserved : goal.messages-preserved
messages-preserved g c =
    let some : 0 < c.next-size.result = omega (arith, c.if-size-eq0.false) in
    let next = next_here c.messages.ahead c.args.decoder.now c.args.piece.now c.next-size.result c.messages.invariant.is (c.next-size.ensures.message some) in
    let left = rest_at c.split_at.result.1.now c.args.piece.now c.used-at.result c.messages.ahead.used c.split_at.ensures.back c.used-at.ensures in
    let has = g.T.MessageTaker.has_heard in
    record {
      is = ahead_on c.messages.ahead c.next-size.new.self c.args.decoder.now c.args.piece.now _ c.messages.invariant.is c.next-size.ensures.used;
      takes = subst (λ n. TakesAhead has g.T.MessageTaker.line c.args.decoder.now c.args.piece.now c.args.taker.now c.take.new.self c.args.text.now.items
          c.take.new.text.items n) (sym (ap (λ (a : LookedAhead). a.used) c.next-size.ensures.used))
          (takes_more has g.T.MessageTaker.line c.args.decoder.now c.args.piece.now c.messages.invariant.takes c.next-size.result
          c.split_at.result.1.now next left c.take.new.self c.take.new.text.items some c.in_ok-take.ensures.heard c.in_ok-take.ensures.text);
    }

pub returns-then-len-ge-FULL_TEXT-clause-takes : goal.returns-then-len-ge-FULL_TEXT-clause-takes
returns-then-len-ge-FULL_TEXT-clause-takes g c =
    let some : 0 < c.next-size.result = omega (arith, c.if-size-eq0.false) in
    let next = next_here c.messages.ahead c.args.decoder.now c.args.piece.now c.next-size.result c.messages.invariant.is (c.next-size.ensures.message some) in
    let left = rest_at c.split_at.result.1.now c.args.piece.now c.used-at.result c.messages.ahead.used c.split_at.ensures.back c.used-at.ensures in
    let has = g.T.MessageTaker.has_heard in
    subst (λ n. TakesAhead has g.T.MessageTaker.line c.args.decoder.now c.args.piece.now c.args.taker.now c.take.new.self c.args.text.now.items
    c.take.new.text.items n) (sym (c.used.ensures ∙ ap (λ (a : LookedAhead). a.used) c.next-size.ensures.used))
    (takes_more has g.T.MessageTaker.line c.args.decoder.now c.args.piece.now c.messages.invariant.takes c.next-size.result
    c.split_at.result.1.now next left c.take.new.self c.take.new.text.items some c.in_ok-take.ensures.heard c.in_ok-take.ensures.text)

pub messages-smaller : goal.messages-smaller
messages-smaller g c =
    let some : 0 < c.next-size.result = omega (arith, c.if-size-eq0.false) in
    let next = next_here c.messages.ahead c.args.decoder.now c.args.piece.now c.next-size.result c.messages.invariant.is (c.next-size.ensures.message some) in
    let left = rest_at c.split_at.result.1.now c.args.piece.now c.used-at.result c.messages.ahead.used c.split_at.ensures.back c.used-at.ensures in
    let ends = next_ends g.T.MessageTaker.has_heard g.T.MessageTaker.line c.args.decoder.now c.args.piece.now c.messages.invariant.takes c.next-size.result
    c.split_at.result.1.now next left in
    omega (arith, some, ends, ap (λ (a : LookedAhead). a.used) c.next-size.ensures.used)
