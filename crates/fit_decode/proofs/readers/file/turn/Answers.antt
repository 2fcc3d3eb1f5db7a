-- A turn takes at most the bytes that are missing, so a file's end is the end of a piece.
use Rattle.fit_decode.proofs.Common.{◌≡◌, ◌≤◌, length, [], refl, sym, ap, arith, length-append, append-nil, short_bytes, needs_some, needs_no_sooner}
use Rattle.fit_decode.proofs.Consumed.{Consumes-keeps}
use Rattle.fit_decode.proofs.PieceTaken.{turn_of, turn_ends, turn_fails}
use Rattle.fit_decode.proofs.readers.file.turn.Goals as goal

pub take_some-requires : goal.take_some-requires
take_some-requires g c =
    let some = needs_some c.args.decoder.now.bytes c.need.result (c.need.ensures.need c.requires.fresh) c.requires.viable in
    (omega (arith, some, c.min-wanted.ensures), omega (arith, c.min-wanted.ensures))

pub returns-in_default-clause-turned : goal.returns-in_default-clause-turned
returns-in_default-clause-turned g c = λ files stands.
    let bad = c.in_default.ensures.bad in
    record {
      got = [];
      noted = sym (append-nil c.args.taken.now.items);
      eats = Consumes-keeps _ _ bad.1;
      told = turn_fails files c.args.head.now c.args.records.now c.args.decoder.now c.args.count.now (g.S.Source.remaining c.take_some.new.source)
          (g.S.Source.has_failed c.take_some.new.source) c.requires.counted c.requires.fresh stands bad.0;
    }

pub returns-then-got-eq0-clause-turned : goal.returns-then-got-eq0-clause-turned
returns-then-got-eq0-clause-turned g c = λ files stands.
    let bytes = c.in-Ok.ensures.bytes in
    record {
      got = [];
      noted = sym (append-nil c.args.taken.now.items);
      eats = rw c.if-got-eq0.true at bytes.0;
      told = turn_ends files c.args.head.now c.args.records.now c.args.decoder.now c.args.count.now (g.S.Source.remaining c.take_some.new.source)
          (g.S.Source.has_failed c.take_some.new.source) c.requires.counted c.requires.fresh stands (bytes.1 c.if-got-eq0.true) c.in-Ok.ensures.good;
    }

pub overflow_add-count : goal.overflow_add-count
overflow_add-count g c =
    omega (arith, short_bytes c.args.decoder.now.bytes c.requires.viable, c.requires.counted, c.in-Ok.ensures.bound, c.min-wanted.ensures)

pub returns-clause-turned : goal.returns-clause-turned
returns-clause-turned g c = λ files stands.
    let piece = c.split_at.result.0.now in
    let size : length piece ≡ c.in-Ok.got = c.split_at.ensures.front_len in
    let bound : c.in-Ok.got ≤ c.min-wanted.result = c.in-Ok.ensures.bound in
    let needs = c.need.ensures.need c.requires.fresh in
    record {
      got = piece;
      noted = c.note.ensures;
      eats = rw (← c.split_at.ensures.front) at c.in-Ok.ensures.bytes.0;
      told = turn_of files c.args.decoder.now.bytes piece c.need.result _ _ c.take_piece.new.decoder c.take_piece.new.head c.take_piece.new.records
          c.take_piece.result
          (needs_no_sooner c.args.decoder.now.bytes c.need.result files stands.progress needs stands.come)
          needs (omega (arith, c.min-wanted.ensures)) (omega arith) c.in-Ok.ensures.good c.requires.viable
          (stands.progress, stands.come) (c.take_piece.ensures.fed files stands);
    }

pub returns-clause-counted : goal.returns-clause-counted
returns-clause-counted g c = omega (arith, ap length c.note.ensures, length-append c.args.taken.now.items c.split_at.result.0.now, c.split_at.ensures.front_len)

pub split_at-requires : goal.split_at-requires
split_at-requires g c = omega (arith, c.in-Ok.ensures.bound, c.min-wanted.ensures, c.take_some.ensures.room)

pub returns-in_default-clause-viable : goal.returns-in_default-clause-viable
returns-in_default-clause-viable g c = c.requires.viable

pub returns-in_default-clause-counted : goal.returns-in_default-clause-counted
returns-in_default-clause-counted g c = refl

pub returns-then-got-eq0-clause-viable : goal.returns-then-got-eq0-clause-viable
returns-then-got-eq0-clause-viable g c = c.requires.viable

pub returns-then-got-eq0-clause-counted : goal.returns-then-got-eq0-clause-counted
returns-then-got-eq0-clause-counted g c = refl

pub returns-clause-viable : goal.returns-clause-viable
returns-clause-viable g c = c.take_piece.ensures.viable

pub need-requires : goal.need-requires
need-requires g c = assumption

pub take_piece-requires : goal.take_piece-requires
take_piece-requires g c = (assumption, (c.requires.fresh, (c.requires.viable, omega (arith, c.requires.counted, c.split_at.ensures.front_len))))
