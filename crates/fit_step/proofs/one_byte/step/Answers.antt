use Rattle.fit_step.proofs.Common.{sym, Bool, Err, subst, Position, Made, TakesNone, step, state, tests_of}
use Rattle.fit_step.proofs.InPlace.{wants_none}
use Rattle.fit_step.proofs.Kept.{step_leaves, step_made, stops_alike}
use Rattle.std.proofs.lemmas.Result.{err_from_is_err_and}
use Rattle.fit_step.proofs.one_byte.step.Goals as goal

pub returns : goal.returns
returns g c =
    let e = c.args.env.now in
    let p = c.args.position.now in
    let q : Position = record { phase = c.take.new.phase; room = c.take.new.room; partial = c.take.new.partial } in
    let made = c.in_ok-whole.ensures.made in
    let after = c.take.new.in_progress in
    let left = step_leaves e (tests_of e) c.args.byte c.ranges.byte.fits p q c.args.in_progress.now after _ c.in_ok-whole.whole c.copied-partial.ensures
    c.requires.room c.requires.stands made in
    record {
      made = step_made e (tests_of e) c.args.byte c.ranges.byte.fits p q c.args.in_progress.now after _ c.in_ok-whole.whole c.copied-partial.ensures made;
      kept = left.0;
      room = left.1;
      err = tt;
      free = λ _. tt;
    }

pub returns-in_err-whole : goal.returns-in_err-whole
returns-in_err-whole g c =
    let e = c.args.env.now in
    let p = c.args.position.now in
    let after = c.take.new in
    let refused = c.in_err-whole in
    let why = refused.field-0.0 in
    let exit = err_from_is_err_and c.from_residual.result c.from_residual.ensures.1 in
    rw (exit.1, exit.2) (record {
      made = stops_alike after.phase after.room after.partial why after.in_progress _
          (subst (λ k. Made after.phase after.room after.in_progress after.partial (Err why)
          (step e (tests_of e) (state p.phase p.room c.args.in_progress.now k) c.args.byte)) c.copied-partial.ensures refused.ensures.made);
      kept = tt;
      room = tt;
      err = refused.ensures.err;
      free = λ none. wants_none Bool (Position × Bool) why
          (refused.ensures.free (subst (λ k. TakesNone e p.phase k c.args.byte) (sym c.copied-partial.ensures) none));
    })
