use Rattle.fit_step.proofs.Common.{◌≡◌, ◌+◌, ◌-◌, ◌*◌, ◌∙◌, ap, sym, arith, true, false, refl, le-ltb, lt-ltb, nat_lt}
use Rattle.fit_record.specs.Records.{body_length}
use Rattle.fit_record.specs.Unfinished.{can_complete}
use Rattle.fit_step.specs.Machine.{definition_move}
use Rattle.fit_step.proofs.sizes.at_dev_count.Goals as goal

pub can_complete-requires : goal.can_complete-requires
can_complete-requires g c = (assumption, c.requires.fits.local)

pub overflow_sub-room : goal.overflow_sub-room
overflow_sub-room g c = omega (arith, c.requires.room)

pub overflow_mul-to_come : goal.overflow_mul-to_come
overflow_mul-to_come g c = omega (arith, c.from-to_come.ensures, c.ranges.byte.fits)

pub overflow_add-to_come : goal.overflow_add-to_come
overflow_add-to_come g c = omega (arith, c.from-to_come.ensures, c.ranges.byte.fits)

pub returns-then-room-to_come : goal.returns-then-room-to_come
unfolding definition_move
returns-then-room-to_come g c =
    let short : nat_lt c.args.room.now (1 + 3 * c.args.byte) ≡ true = lt-ltb _ _ (omega (arith, c.if-room-to_come.true)) in
    record { made = rw short refl; err = (refl, refl); free = tt }

pub returns-then-not-can_complete : goal.returns-then-not-can_complete
unfolding definition_move
returns-then-not-can_complete g c =
    let e = c.args.env.now in
    let d = c.args.definition.now in
    let b = c.args.byte in
    let left = c.args.room.now - 1 in
    let long : nat_lt c.args.room.now (1 + 3 * b) ≡ false = le-ltb _ _ (omega (arith, c.if-room-to_come.false)) in
    let test : can_complete e d.local (3 * b) (body_length d) left ≡ false =
    ap (λ k. can_complete e d.local (3 * k) (body_length d) left) (sym c.from-to_come.ensures)
    ∙ ap (λ n. can_complete e d.local (3 * c.from-to_come.result) n left) (sym c.body_length.ensures.length)
    ∙ sym c.can_complete.ensures.test ∙ c.if-not-can_complete.true in
    record { made = rw (long, test) refl; err = (refl, refl); free = tt }

pub returns-then-byte-gt0-clause-err : goal.returns-then-byte-gt0-clause-err
returns-then-byte-gt0-clause-err g c = tt

pub returns-then-byte-gt0-clause-free : goal.returns-then-byte-gt0-clause-free
returns-then-byte-gt0-clause-free g c = tt

pub returns-clause-err : goal.returns-clause-err
returns-clause-err g c = tt

pub returns-clause-free : goal.returns-clause-free
returns-clause-free g c = tt
