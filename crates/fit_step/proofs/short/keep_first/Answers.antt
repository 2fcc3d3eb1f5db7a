use Rattle.fit_step.proofs.Common.{◌≡◌, ◌-◌, ◌∙◌, ◌++◌, [], ap, Some, Data, arith, length, new_message, slice_is_bytes, slice_get}
use Rattle.fit_step.proofs.KeptMessages.{first_passed}
use Rattle.fit_step.proofs.short.keep_first.Goals as goal

pub returns-clause-passes : goal.returns-clause-passes
returns-clause-passes g c = λ idle.
    let piece = c.args.piece.now in
    let p = c.args.position.now in
    let cut = c.requires in
    let same : Some c.in-Some.header.now ≡ Some cut.header = c.in-Some.ensures.value ∙ ap (λ l. slice_get l 0) cut.begins in
    let header : c.in-Some.header.now ≡ cut.header = cc in
    let all = c.followed_by-position.ensures ∙ ap (λ b. b ++ piece) c.new.ensures in
    first_passed c.args.env.now p (record p { room = p.room - length piece; partial = c.followed_by-position.result }) piece c.args.size c.args.in_progress.now
    (Some (Data c.unmade_message.result)) (slice_is_bytes piece c.type_inv.piece) cut (omega (arith, c.if-size-room.false)) (omega arith) idle
    (λ i. record p { room = p.room - length piece; partial = all i })
    (ap (λ v. Some (Data v)) c.unmade_message.ensures ∙ ap (λ b. Some (Data (new_message b [] []))) header)
