use Rattle.fit_step.proofs.Common.{◌≡◌, ◌+◌, [], ◌∷◌, take, ap, ◌∙◌, subst, arith, take-take, length, Data, ◌≤◌}
use Rattle.fit_step.specs.inner.ByBytes.{IsLearned}
use Rattle.fit_step.proofs.SkippedRecords.{skipped_after, one_learned}
use Rattle.fit_step.proofs.skipping.skip_any_message.Goals as goal

pub returns-clause-message : goal.returns-clause-message
returns-clause-message g c = λ some.
    let s = c.learn_message-used in
    let e = c.args.env.now in
    let piece = c.args.piece.now in
    let used = s.result in
    let front = c.before_last_six-front in
    let large : used + 6 ≤ c.args.position.now.room = omega (arith, s.ensures.within, front.ensures.left) in
    let same : take used front.result.now ≡ take used piece =
    ap (take used) front.ensures.front ∙ take-take used (length front.result.now) piece s.ensures.within in
    let (v, is, learnt) = subst (IsLearned e s.new.env) same (s.ensures.learned some) in (
      v,
      skipped_after e s.new.env c.args.position.now c.args.in_progress.now piece used (Data v ∷ []) c.in-None.is large
          (one_learned e s.new.env v (take used piece) is learnt),
    )
