use Rattle.fit_step.proofs.Common.{None, refl, sym, ap, subst, arith, IsOk, both_ways, step, state_at, tests_of}
use Rattle.fit_step.proofs.EmptyMessages.{describes_nothing, record_stopped}
use Rattle.fit_step.proofs.ReadBytes.{step_whole}
use Rattle.fit_step.proofs.record_reader.take_step.Goals as goal

pub step-requires : goal.step-requires
step-requires g c = (assumption, c.requires)

pub returns-in-Err : goal.returns-in-Err
returns-in-Err g c =
    let e = c.args.env.now in
    let p = c.args.position.now in
    let before = state_at p c.args.in_progress.now in
    let after = c.step.new.in_progress in
    let same = ap (state_at p) c.in-Err.ensures.err in
    record {
      made = record_stopped e before (state_at p after) c.args.byte after c.in-Err.stop (step e (tests_of e) before c.args.byte) same c.in-Err.ensures.made
          c.in-Err.ensures.free;
      err = same;
    }

pub returns-in-Ok-default-false-clause-err : goal.returns-in-Ok-default-false-clause-err
returns-in-Ok-default-false-clause-err g c = tt

pub returns-then-not-is_learned : goal.returns-then-not-is_learned
returns-then-not-is_learned g c =
    let e = c.args.env.now in
    let p = c.args.position.now in
    let at = c.in-Ok-default-true in
    let made = step e (tests_of e) (state_at p c.args.in_progress.now) c.args.byte in
    let w = step_whole e c.step.new.in_progress at.next at.field-0-1 made at.field-0-1-test at.ensures.made at.ensures.kept in
    let is_ok : IsOk made = subst IsOk (sym w.3) refl in
    record {
      made = (
        c.is_learned.ensures.same c.if-not-is_learned.true,
        is_ok,
        λ begins heads.
            let nothing = describes_nothing e (tests_of e) (state_at p c.args.in_progress.now) (state_at at.next None) c.args.byte w.0 begins heads w.3 in
            absurd (both_ways c.is_learned.result c.if-not-is_learned.true (c.is_learned.ensures.free w.0 w.1 nothing)),
      );
      err = ap (λ o. state_at p o)
          (c.undo.ensures e c.args.in_progress.now w.0 c.args.byte (state_at at.next None) (omega arith) (c.requires.1) w.3 w.1);
    }

pub returns-else-not-is_learned : goal.returns-else-not-is_learned
returns-else-not-is_learned g c =
    let e = c.args.env.now in
    let at = c.in-Ok-default-true in
    let made = step e (tests_of e) (state_at c.args.position.now c.args.in_progress.now) c.args.byte in
    let w = step_whole e c.step.new.in_progress at.next at.field-0-1 made at.field-0-1-test at.ensures.made at.ensures.kept in
    record { made = (w.0, w.1, (c.is_learned.ensures.learned w.0 w.1 c.if-not-is_learned.false, w.3)); err = tt }
