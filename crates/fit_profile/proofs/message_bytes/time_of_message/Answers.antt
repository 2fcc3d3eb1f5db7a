use Rattle.fit_profile.proofs.Common.{◌∙◌, ap, sym}
use Rattle.fit_record.specs.Faults.{or_else}
use Rattle.fit_profile.specs.Times.{header_time}
use Rattle.fit_profile.proofs.InBytes.{time_of_bytes}
use Rattle.fit_profile.proofs.message_bytes.time_of_message.Goals as goal

pub returns-in-Some : goal.returns-in-Some
returns-in-Some c =
    let m = c.args.message.now in
    ap (λ t. or_else t (header_time c.args.last.now.time m.offset)) (c.in-Some.ensures ∙ sym (c.requires.plan.time m.body.now) ∙ time_of_bytes m)

pub returns-in-None : goal.returns-in-None
returns-in-None c =
    let m = c.args.message.now in
    c.header_time.ensures
    ∙ ap (λ t. or_else t (header_time c.args.last.now.time m.offset)) (c.in-None.ensures ∙ sym (c.requires.plan.time m.body.now) ∙ time_of_bytes m)
