use Rattle.fit_step.proofs.Common.{◌≡◌, [], ◌∷◌, subst, arith, Data, SkipsInSection}
use Rattle.fit_step.proofs.PlainMessages.{has_some}
use Rattle.fit_step.proofs.skipping.skip_message_in_section.Goals as goal

pub returns-clause-message : goal.returns-clause-message
returns-clause-message g c = λ some.
    let a = c.skip_any_message in
    let (v, skips) = a.ensures.message some in
    let none : c.skip_plain_message-used.result ≡ 0 = omega (arith, c.if-used-gt0.false) in (
      v,
      subst (λ p. SkipsInSection c.args.env.now p c.args.in_progress.now a.new.env a.new.position c.args.piece.now a.result (Data v ∷ []))
          (c.skip_plain_message-used.ensures.none none) skips,
    )

pub returns-clause-whole : goal.returns-clause-whole
returns-clause-whole g c = λ idle size has large.
    absurd (omega (arith, c.skip_plain_message-used.ensures.whole idle size has large, has_some c.args.env.now c.args.piece.now size has, c.if-used-gt0.false))

pub returns-in_default-clause-whole : goal.returns-in_default-clause-whole
returns-in_default-clause-whole g c = λ idle size has large.
    absurd (omega (arith, c.skip_plain_message-used.ensures.whole idle size has large, has_some c.args.env.now c.args.piece.now size has, c.if-used-gt0.false))
