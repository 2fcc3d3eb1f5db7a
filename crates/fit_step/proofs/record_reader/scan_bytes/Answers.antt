use Rattle.fit_step.proofs.Common.{◌≡◌, ◌<◌, ◌++◌, length, take, get_or, refl, sym, ◌∙◌, subst, arith, inl, append-nil, StandsAfter}
use Rattle.fit_step.proofs.Common.{slice_is_bytes, state_at, StandsWithRoom, None, step, tests_of}
use Rattle.fit_step.proofs.ReadBytes.{byte_ends, byte_goes, record_ends, record_stops, record_goes, stands_on}
use Rattle.fit_step.proofs.RecordsInProgress.{part_stands}
use Rattle.fit_step.proofs.record_reader.scan_bytes.Goals as goal

pub returns-in-Ok-true-clause-reads : goal.returns-in-Ok-true-clause-reads
returns-in-Ok-true-clause-reads g c =
    let e = c.loop-i.env in
    let b = get_or c.args.piece.now c.loop-i.i 0 in
    let made = step e (tests_of e) (state_at c.loop-i.position c.loop-i.in_progress) b in
    let whole = byte_ends e c.take_byte.new.env c.take_byte.new.position c.take_byte.new.in_progress b c.in-Ok-true.field-0 made
    c.in-Ok-true.field-0-test c.in-Ok-true.ensures.made in (
      whole.0,
      whole.1,
      λ room bytes h.
          record_ends c.args.env.now e c.take_byte.new.env room bytes c.args.piece.now c.loop-i.i c.loop-i.position c.take_byte.new.position
          c.loop-i.in_progress None c.loop-i-test.true (slice_is_bytes c.args.piece.now c.type_inv.piece c.loop-i.i)
          c.loop-i.invariant.known (c.loop-i.invariant.come room bytes h) whole.0 whole.2,
    )

pub returns-in-Err-clause-reads : goal.returns-in-Err-clause-reads
returns-in-Err-clause-reads g c = λ room bytes h.
    record_stops c.args.env.now c.loop-i.env c.take_byte.new.env room bytes c.args.piece.now c.loop-i.i c.loop-i.position c.take_byte.new.position
    c.loop-i.in_progress c.take_byte.new.in_progress c.loop-i-test.true (slice_is_bytes c.args.piece.now c.type_inv.piece c.loop-i.i)
    c.loop-i.invariant.known (c.loop-i.invariant.come room bytes h) c.in-Err.stop c.in-Err.ensures.err c.loop-i.invariant.reading.0 c.in-Err.ensures.made

pub loop-i-init : goal.loop-i-init
loop-i-init g c = record {
  known = refl;
  come = λ room bytes h.
      subst (λ z. StandsAfter c.args.env.now room z (state_at c.args.position.now c.args.in_progress.now)) (sym (append-nil bytes))
      (part_stands c.args.env.now room bytes c.args.position.now c.args.in_progress.now h c.requires.1);
  reading = c.requires;
}

pub loop-i-preserved : goal.loop-i-preserved
loop-i-preserved g c =
    let low : get_or c.args.piece.now c.loop-i.i 0 < 256 = slice_is_bytes c.args.piece.now c.type_inv.piece c.loop-i.i in
    let e = c.loop-i.env in
    let b = get_or c.args.piece.now c.loop-i.i 0 in
    let made = byte_goes e c.take_byte.new.env c.take_byte.new.position c.take_byte.new.in_progress b c.in-Ok-false.field-0
    (step e (tests_of e) (state_at c.loop-i.position c.loop-i.in_progress) b) c.in-Ok-false.field-0-test c.in-Ok-false.ensures.made in
    record {
      known = made.0 ∙ c.loop-i.invariant.known;
      come = λ room bytes h.
          record_goes c.args.env.now c.loop-i.env c.take_byte.new.env room bytes c.args.piece.now c.loop-i.i c.loop-i.position c.take_byte.new.position
          c.loop-i.in_progress c.take_byte.new.in_progress c.loop-i-test.true low c.loop-i.invariant.known (c.loop-i.invariant.come room bytes h) made;
      reading = subst (λ x. StandsWithRoom x (state_at c.take_byte.new.position c.take_byte.new.in_progress)) (sym made.0)
          (stands_on c.loop-i.env (state_at c.loop-i.position c.loop-i.in_progress) (state_at c.take_byte.new.position c.take_byte.new.in_progress)
          (get_or c.args.piece.now c.loop-i.i 0) low c.loop-i.invariant.reading made.1);
    }

pub returns-clause-reads : goal.returns-clause-reads
returns-clause-reads g c = λ room bytes h.
    let all : c.loop-i.i ≡ length c.args.piece.now = omega (arith, c.loop-i.auto.i-end, c.loop-i-test.false) in
    let known = c.loop-i.invariant.known in (
      refl,
      known,
      inl (subst (λ n. StandsAfter c.args.env.now room (bytes ++ take n c.args.piece.now) (state_at c.loop-i.position c.loop-i.in_progress)) all
          (subst (λ e. StandsAfter e room (bytes ++ take c.loop-i.i c.args.piece.now) (state_at c.loop-i.position c.loop-i.in_progress)) known
          (c.loop-i.invariant.come room bytes h))),
    )
