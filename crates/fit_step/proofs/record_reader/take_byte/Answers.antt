use Rattle.fit_step.proofs.Common.{◌≡◌, refl, sym, subst, OnErr, step, state_at, tests_of, StandsWithRoom, TakesByte}
use Rattle.fit_step.proofs.record_reader.take_byte.Goals as goal

pub take_inside-requires : goal.take_inside-requires
take_inside-requires g c = c.requires.0

pub returns-then-take_inside-clause-made : goal.returns-then-take_inside-clause-made
returns-then-take_inside-clause-made g c = (refl, c.take_inside.ensures.taken c.args.env.now c.if-take_inside.true)

pub take_step-requires : goal.take_step-requires
take_step-requires g c = (
  assumption,
  subst (λ p. StandsWithRoom c.args.env.now (state_at p c.args.in_progress.now)) (sym (c.take_inside.ensures.same c.if-take_inside.false)) c.requires,
)

pub returns : goal.returns
returns g c =
    let e = c.args.env.now in
    let after = c.take_step.new in
    let same = c.take_inside.ensures.same c.if-take_inside.false in
    record {
      made = subst (λ p. TakesByte e after.env after.position after.in_progress c.args.byte c.take_step.result
          (step e (tests_of e) (state_at p c.args.in_progress.now) c.args.byte)) same c.take_step.ensures.made;
      err = subst (λ p. OnErr c.take_step.result (state_at after.position after.in_progress ≡ state_at p c.args.in_progress.now)) same
          c.take_step.ensures.err;
    }
