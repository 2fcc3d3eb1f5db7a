use Rattle.fit_profile.proofs.Common.{◌∙◌, ap, refl, sym, last_after, Some}
use Rattle.fit_record.specs.Faults.{or_else}
use Rattle.fit_record.specs.MessageBytes.{message_in}
use Rattle.fit_profile.specs.inner.Alone.{times_alone}
use Rattle.fit_profile.proofs.NoCounters.{only-time, parts, told-uncounted}
use Rattle.fit_profile.proofs.message_bytes.tell_next.Goals as goal

pub returns-then-plan-clause-last : goal.returns-then-plan-clause-last
returns-then-plan-clause-last c = c.last_after.ensures ∙ ap (λ t. last_after c.args.last.now (Some t)) c.counted_of_message-told.ensures

pub returns-clause-told : goal.returns-clause-told
returns-clause-told c =
    let m = c.args.message.now in
    let d = m.defined.now.definition in
    c.uncounted.ensures
    ∙ told-uncounted c.args.last.now d (message_in m) (times_alone c.time_of_message-time.result c.header_time-header_time.result)
    (parts d (sym c.requires.plan.more ∙ c.if-plan.false)).1
    (rw (c.time_of_message-time.ensures, c.header_time-header_time.ensures) refl)

pub returns-clause-last : goal.returns-clause-last
returns-clause-last c =
    let m = c.args.message.now in
    let d = m.defined.now.definition in
    let last = c.args.last.now in
    c.note_time.ensures ∙ ap (λ t. record last { time = or_else t last.time }) c.time_of_message-time.ensures
    ∙ only-time last d (message_in m) (parts d (sym c.requires.plan.more ∙ c.if-plan.false)).1
