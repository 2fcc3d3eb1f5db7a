-- A piece is fed event by event.
use Rattle.fit_decode.proofs.Common.{◌^◌, ◌<◌, length, drop, Some, Err, sym, ap, ◌∙◌, subst, arith, length-drop, append-nil, event_of, unrefused}
use Rattle.fit_decode.proofs.Common.{ComesToRecords}
use Rattle.fit_decode.specs.Answers.{Seen}
use Rattle.fit_decode.proofs.PieceTold.{fed_on, feeds_header, feeds_item, piece_over, piece_more, piece_end, piece_refused, piece_wants, piece_not_kept}
use Rattle.fit_decode.proofs.readers.piece.take_piece.Goals as goal

pub returns-in-More-clause-fed : goal.returns-in-More-clause-fed
returns-in-More-clause-fed g c = λ files stands.
    let said = c.in-Ok.ensures.more (ap event_of c.in-More.is) in
    piece_more files _ _ c.args.decoder.now c.loop-at.decoder c.feed.new.self c.args.piece.now c.loop-at.at c.loop-at.invariant.within
    c.loop-at.invariant.is_fed
    (c.loop-at.invariant.stands files stands) c.in-Ok.fed.used (rw c.split_at.ensures.back at c.in-Ok.ensures.used.1) (rw c.split_at.ensures.back at said.0)
    (rw c.split_at.ensures.back at said.1)

pub loop-at-smaller-in-Header : goal.loop-at-smaller-in-Header
loop-at-smaller-in-Header g c =
    omega (arith, (c.in-Ok.ensures.event _ (ap event_of c.in-Header.is)).0, c.loop-at-test.true)

pub loop-at-preserved-in-Header : goal.loop-at-preserved-in-Header
loop-at-preserved-in-Header g c =
    let piece = c.args.piece.now in
    let after = rw c.split_at.ensures.back at c.in-Ok.ensures.used.1 in
    let least = (c.in-Ok.ensures.event _ (ap event_of c.in-Header.is)).1 in
    record {
      within = omega (arith, c.in-Ok.ensures.used.0, ap length c.split_at.ensures.back, length-drop c.loop-at.at piece, c.loop-at-test.true);
      is_fed = fed_on c.args.decoder.now c.loop-at.decoder c.feed.new.self piece c.loop-at.at c.in-Ok.fed.used c.loop-at.invariant.is_fed after;
      stands = λ files stands.
          let there = feeds_header files c.loop-at.head c.loop-at.records c.loop-at.decoder c.feed.new.self (drop c.loop-at.at piece) c.in-Ok.fed.used
          (c.loop-at.invariant.stands files stands) after c.in-Header.header c.in-Header.field-1 (rw c.split_at.ensures.back at least) in
          subst (λ h. ComesToRecords files (Some h) c.loop-at.records c.feed.new.self.bytes) (sym c.in-Header.header-is) there;
      viable = c.in-Ok.ensures.viable;
    }

pub loop-at-smaller : goal.loop-at-smaller
loop-at-smaller g c =
    omega (arith, (c.in-Ok.ensures.event _ (ap event_of c.in-Item.is)).0, c.loop-at-test.true)

pub loop-at-preserved : goal.loop-at-preserved
loop-at-preserved g c =
    let piece = c.args.piece.now in
    let after = rw c.split_at.ensures.back at c.in-Ok.ensures.used.1 in
    let least = (c.in-Ok.ensures.event _ (ap event_of c.in-Item.is)).1 in
    record {
      within = omega (arith, c.in-Ok.ensures.used.0, ap length c.split_at.ensures.back, length-drop c.loop-at.at piece, c.loop-at-test.true);
      is_fed = fed_on c.args.decoder.now c.loop-at.decoder c.feed.new.self piece c.loop-at.at c.in-Ok.fed.used c.loop-at.invariant.is_fed after;
      stands = λ files stands.
          let kept = rw c.in-Item.record-is at (c.is_kept.ensures c.if-not-is_kept.false) in
          let there = feeds_item files c.loop-at.head c.loop-at.records c.loop-at.decoder c.feed.new.self (drop c.loop-at.at piece) c.in-Ok.fed.used
          (c.loop-at.invariant.stands files stands) after c.in-Item.record (rw c.split_at.ensures.back at least) in
          subst (λ rs. ComesToRecords files c.loop-at.head rs c.feed.new.self.bytes) (sym kept) there;
      viable = c.in-Ok.ensures.viable;
    }

pub returns-in-FileEnd-clause-fed : goal.returns-in-FileEnd-clause-fed
returns-in-FileEnd-clause-fed g c = λ files stands.
    let least = (c.in-Ok.ensures.event _ (ap event_of c.in-FileEnd.is)).1 in
    piece_end files _ _ c.args.decoder.now c.loop-at.decoder c.feed.new.self c.args.piece.now c.loop-at.at c.loop-at.invariant.within c.loop-at.invariant.is_fed
    (c.loop-at.invariant.stands files stands) c.in-Ok.fed.used (rw c.split_at.ensures.back at c.in-Ok.ensures.used.1)
    (rw c.split_at.ensures.back at c.in-Ok.ensures.used.0) (rw c.split_at.ensures.back at least)

pub returns-in-Err-Refused-clause-fed : goal.returns-in-Err-Refused-clause-fed
returns-in-Err-Refused-clause-fed g c = λ files stands.
    let refuses = c.feed.ensures.refused c.in-Err-Refused.place c.in-Err-Refused.reason (ap (λ (v : Seen). v.refusal) c.loop-at.invariant.is_fed)
    (c.in-Err-Refused.is ∙ ap Err c.in-Err-Refused.field-0-is) in
    piece_refused files _ _ c.args.decoder.now c.loop-at.decoder c.feed.new.self c.args.piece.now c.loop-at.at c.loop-at.invariant.within
    c.loop-at.invariant.is_fed
    (c.loop-at.invariant.stands files stands) c.in-Err-Refused.place c.in-Err-Refused.reason (rw c.split_at.ensures.back at refuses)

pub returns-then-not-is_kept-clause-fed : goal.returns-then-not-is_kept-clause-fed
returns-then-not-is_kept-clause-fed g c = λ files stands.
    let (some, least) = c.in-Ok.ensures.event _ (ap event_of c.in-Item.is) in
    piece_not_kept files _ _ c.args.decoder.now c.loop-at.decoder c.feed.new.self c.args.piece.now c.loop-at.at c.loop-at.invariant.within
    c.loop-at.invariant.is_fed
    (c.loop-at.invariant.stands files stands) c.args.taken c.in-Ok.fed.used c.in-Item.record c.requires.counted
    (rw c.split_at.ensures.back at c.in-Ok.ensures.used.1) (rw c.split_at.ensures.back at c.in-Ok.ensures.used.0) some
    (rw c.split_at.ensures.back at least) c.in-Ok.ensures.viable

pub returns-in-Err-NoMemory-clause-fed : goal.returns-in-Err-NoMemory-clause-fed
returns-in-Err-NoMemory-clause-fed g c = λ files stands.
    let used = c.in-Err-NoMemory.field-0-0 in
    let wants = c.feed.ensures.memory used (c.in-Err-NoMemory.is ∙ ap Err c.in-Err-NoMemory.field-0-is) in
    piece_wants files _ _ c.args.decoder.now c.loop-at.decoder c.feed.new.self c.args.piece.now c.loop-at.at c.loop-at.invariant.within
    c.loop-at.invariant.is_fed
    (c.loop-at.invariant.stands files stands) c.args.taken used c.requires.counted (rw c.split_at.ensures.back at wants)

pub returns-clause-fed : goal.returns-clause-fed
returns-clause-fed g c = λ files stands.
    piece_over files _ _ c.args.decoder.now c.loop-at.decoder c.args.piece.now c.loop-at.at c.loop-at.invariant.is_fed
    (omega (arith, c.loop-at.invariant.within, c.loop-at-test.false))
    (c.loop-at.invariant.stands files stands)

pub unreachable-requires : goal.unreachable-requires
unreachable-requires g c = (c.feed.ensures.others _).0 (c.in-Err-Truncated.is ∙ ap Err c.in-Err-Truncated.field-0-is)

pub unreachable-requires-in-Err-Read : goal.unreachable-requires-in-Err-Read
unreachable-requires-in-Err-Read g c = (c.feed.ensures.others _).1 (c.in-Err-Read.is ∙ ap Err c.in-Err-Read.field-0-is)

pub loop-at-init : goal.loop-at-init
loop-at-init g c = record {
  within = omega arith;
  is_fed = (λ i. record { bytes = c.args.decoder.now.bytes; refusal = c.requires.fresh i }) ∙ ap unrefused (sym (append-nil c.args.decoder.now.bytes));
  stands = λ files stands. stands;
  viable = c.requires.viable;
}

pub overflow_add-at : goal.overflow_add-at
overflow_add-at g c =
    let short : length c.args.piece.now < 2 ^ 64 = assumption in
    omega (arith, c.in-Ok.ensures.used.0, c.split_at.ensures.back_len, c.loop-at-test.true, short)

pub returns-in-More-clause-viable : goal.returns-in-More-clause-viable
returns-in-More-clause-viable g c = c.in-Ok.ensures.viable

pub returns-in-FileEnd-clause-viable : goal.returns-in-FileEnd-clause-viable
returns-in-FileEnd-clause-viable g c = c.in-Ok.ensures.viable

pub returns-then-not-is_kept-clause-viable : goal.returns-then-not-is_kept-clause-viable
returns-then-not-is_kept-clause-viable g c = c.in-Ok.ensures.viable

pub returns-in-Err-Refused-clause-viable : goal.returns-in-Err-Refused-clause-viable
returns-in-Err-Refused-clause-viable g c = c.feed.ensures.viable

pub returns-in-Err-NoMemory-clause-viable : goal.returns-in-Err-NoMemory-clause-viable
returns-in-Err-NoMemory-clause-viable g c = c.feed.ensures.viable

pub returns-clause-viable : goal.returns-clause-viable
returns-clause-viable g c = c.loop-at.invariant.viable

pub feed-requires : goal.feed-requires
feed-requires g c = assumption

pub is_kept-requires : goal.is_kept-requires
is_kept-requires g c = assumption

pub split_at-requires : goal.split_at-requires
split_at-requires g c = c.loop-at.invariant.within
