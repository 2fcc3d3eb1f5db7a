use Rattle.fit_step.proofs.Common.{◌≡◌, ◌-◌, ◌∙◌, [], ◌∷◌, refl, sym, ap, subst, Data, arith, take, length, slice_is_bytes, IsBytes, IsBytes-take}
use Rattle.fit_step.proofs.Common.{PassesInSection}
use Rattle.fit_step.proofs.KeptMessages.{more_passed, all_passed}
use Rattle.fit_step.proofs.SkippedRecords.{none_passed}
use Rattle.fit_step.proofs.short.take_more.Goals as goal

pub returns-in_default-clause-passes : goal.returns-in_default-clause-passes
returns-in_default-clause-passes g c = ([], refl, none_passed c.args.env.now c.args.position.now c.args.in_progress.now)

pub returns-then-front-missing-clause-passes : goal.returns-then-front-missing-clause-passes
returns-then-front-missing-clause-passes g c =
    let piece = c.args.piece.now in
    let p = c.args.position.now in
    let front = c.split_at.result.0.now in
    let is = c.split_at.ensures.front in
    let taken : take (length front) piece ≡ front = ap (λ n. take n piece) c.split_at.ensures.front_len ∙ sym is in
    let low : IsBytes front = subst IsBytes (sym is) (IsBytes-take c.min.result piece (slice_is_bytes piece c.type_inv.piece)) in (
      [],
      refl,
      more_passed c.args.env.now p (record p { room = p.room - length front; partial = c.followed_by-bytes.result }) c.args.in_progress.now
          c.in-Some.missing c.in-Some.ensures front (take (length front) piece) low c.if-front-missing.true taken
          (λ i. record p { room = p.room - length front; partial = c.followed_by-bytes.ensures i }),
    )

pub returns-then-learn_message-eq0-clause-passes : goal.returns-then-learn_message-eq0-clause-passes
returns-then-learn_message-eq0-clause-passes g c =
    let e = c.args.env.now in
    let p = c.args.position.now in
    let o = c.args.in_progress.now in (
      [],
      refl,
      subst (λ f. PassesInSection e p o f p o [] []) (sym (c.learn_message.ensures.none c.if-learn_message-eq0.true)) (none_passed e p o),
    )

pub returns-clause-passes : goal.returns-clause-passes
returns-clause-passes g c =
    let piece = c.args.piece.now in
    let front = c.split_at.result.0.now in
    let is = c.split_at.ensures.front in
    let low : IsBytes front = subst IsBytes (sym is) (IsBytes-take c.min.result piece (slice_is_bytes piece c.type_inv.piece)) in
    let count : length front ≡ c.in-Some.missing = omega (arith, c.split_at.ensures.front_len, c.min.ensures, c.if-front-missing.false) in
    let taken : take c.in-Some.missing piece ≡ front = ap (λ n. take n piece) (sym count ∙ c.split_at.ensures.front_len) ∙ sym is in
    let n = c.learn_message.result in
    let (v, spelled, learned) = c.learn_message.ensures.learned (omega (arith, c.if-learn_message-eq0.false)) in (
      Data v ∷ [],
      refl,
      all_passed c.args.env.now c.learn_message.new.env c.args.position.now c.new.result c.args.in_progress.now c.in-Some.missing c.in-Some.ensures front
          (take c.in-Some.missing piece) c.as_slice.result.now low count taken (c.as_slice.ensures ∙ c.followed_by-bytes.ensures) v n
          c.learn_message.ensures.within spelled learned c.new.ensures.begins c.new.ensures.room,
    )
