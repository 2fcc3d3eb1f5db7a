use Rattle.fit_record.proofs.Common.{◌+◌, length, refl, sym, ap, ◌∙◌, arith, none-some, both_ways, defined_at, slice_is_bytes, subst, IfSome, IsSound}
use Rattle.fit_record.proofs.FoundMessages.{first_of, message_spelled, only_message, same_size}
use Rattle.fit_record.proofs.environment.Env.message_bytes.Goals as goal

pub returns-in_err-local-clause-found : goal.returns-in_err-local-clause-found
returns-in_err-local-clause-found g c v front rest at is =
    let m = first_of c.args.self.now v c.in_ok-first.first.now c.in_ok-first.rest.now c.args.bytes.now front rest c.in_ok-first.ensures.cases.0 at is in
    absurd (both_ways _ (rw (m.0.bits.clean, m.0.bits.kind) refl) (c.in_err-local.ensures.none refl))

pub returns-in_err-defined-clause-found : goal.returns-in_err-defined-clause-found
returns-in_err-defined-clause-found g c v front rest at is =
    let m = first_of c.args.self.now v c.in_ok-first.first.now c.in_ok-first.rest.now c.args.bytes.now front rest c.in_ok-first.ensures.cases.0 at is in
    absurd (none-some m.0.place
    (c.in_err-defined.ensures.place ∙ ap (defined_at c.args.self.now) (c.in_ok-local.ensures.local ∙ m.0.bits.type) ∙ m.0.known))

pub returns-then-rest-size-clause-found : goal.returns-then-rest-size-clause-found
returns-then-rest-size-clause-found g c v front rest at is =
    let m = first_of c.args.self.now v c.in_ok-first.first.now c.in_ok-first.rest.now c.args.bytes.now front rest c.in_ok-first.ensures.cases.0 at is in
    let size = same_size m.0.place _ c.in_ok-size.field-0
    (sym (ap (defined_at c.args.self.now) (c.in_ok-local.ensures.local ∙ m.0.bits.type) ∙ m.0.known)) c.in_ok-size.ensures.size in
    omega (arith, size, m.1, c.if-rest-size.true)

pub returns-clause-spelled : goal.returns-clause-spelled
returns-clause-spelled g c =
    message_spelled c.args.self.now c.in_ok-defined.defined.now c.in_ok-first.first.now c.in_ok-local.local c.in_ok-size.field-0 c.in_ok-local.offset
    c.in_ok-first.rest.now c.args.bytes.now c.split_at.result.0.now
    c.in_ok-first.ensures.cases.0 (slice_is_bytes c.args.bytes.now c.type_inv.bytes)
    c.in_ok-local.ensures.clean c.in_ok-local.ensures.data
    c.in_ok-local.ensures.local c.in_ok-local.ensures.offset (sym c.in_ok-defined.ensures.place)
    (same_size c.in_ok-defined.defined.now _ c.in_ok-size.field-0 c.in_ok-defined.ensures.place c.in_ok-size.ensures.size)
    c.if-rest-size.false c.split_at.ensures.front

pub returns-clause-found : goal.returns-clause-found
returns-clause-found g c v front rest at is =
    only_message c.args.self.now _ v (1 + length c.split_at.result.0.now) c.args.bytes.now front rest (returns-clause-spelled g c)
    (omega (arith, ap length c.in_ok-first.ensures.cases.0, c.split_at.ensures.front_len, c.if-rest-size.false)) at is

pub returns-clause-sound : goal.returns-clause-sound
returns-clause-sound g c = subst (λ o. IfSome o IsSound) (sym c.in_ok-defined.ensures.place) c.in_ok-defined.ensures.sound

pub returns-clause-size : goal.returns-clause-size
returns-clause-size g c =
    c.split_at.ensures.front_len
    ∙ same_size c.in_ok-defined.defined.now _ c.in_ok-size.field-0 c.in_ok-defined.ensures.place c.in_ok-size.ensures.size

pub returns-clause-within : goal.returns-clause-within
returns-clause-within g c = omega (arith, ap length c.in_ok-first.ensures.cases.0, c.split_at.ensures.front_len, c.if-rest-size.false)

pub defined-requires : goal.defined-requires
defined-requires g c = assumption

pub length-requires : goal.length-requires
length-requires g c = assumption
