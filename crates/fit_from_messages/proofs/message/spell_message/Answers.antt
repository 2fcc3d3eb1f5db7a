use Rattle.std.proofs.Common.{rules, ◌≡◌, ◌∙◌, ◌++◌, ap, subst, arith, take, drop, length}
use Rattle.std.proofs.lemmas.Result.{err_from_is_err_and}
use Rattle.std.specs.Prelude.{IfSome, Some}
use Rattle.fit_base.proofs.ByteLists.{slice_is_bytes}
use Rattle.fit_record.specs.Environment.{defined_at}
use Rattle.fit_record.specs.Records.{dev_layout, layout, message_size}
use Rattle.fit_from_messages.specs.Parts.{byte_at}
use Rattle.fit_from_messages.specs.Slots.{SlotsFit}
use Rattle.fit_from_messages.proofs.MessageFacts.{all_written, are_slots, known_record, same_size, size_known}
use Rattle.fit_from_messages.proofs.message.spell_message.Goals as goal

pub returns-in_err-front-clause-err : goal.returns-in_err-front-clause-err
returns-in_err-front-clause-err c =
    let p = err_from_is_err_and c.from_residual.result c.from_residual.ensures.1 in
    rw (p.1, p.2) (λ f _. c.in_err-front.ensures.err f)

pub write_message-requires-clause-slots : goal.write_message-requires-clause-slots
write_message-requires-clause-slots c =
    let p = c.in-Some.defined.now in
    let defined : defined_at c.args.env.now (byte_at 6 c.args.block.now) ≡ Some p = search rules in
    are_slots (layout p ++ dev_layout p) c.args.slots.now
    (subst (λ o. IfSome o (λ p. SlotsFit (layout p ++ dev_layout p) c.args.slots.now)) defined c.requires.fit)

pub write_message-requires-clause-room : goal.write_message-requires-clause-room
write_message-requires-clause-room c =
    let p = c.in-Some.defined.now in
    let defined : defined_at c.args.env.now (byte_at 6 c.args.block.now) ≡ Some p = search rules in
    let same = same_size (layout p ++ dev_layout p) c.args.slots.now
    (subst (λ o. IfSome o (λ p. SlotsFit (layout p ++ dev_layout p) c.args.slots.now)) defined c.requires.fit) in
    let size : c.in-Some-length.size ≡ message_size p =
    size_known (defined_at c.args.env.now (byte_at 6 c.args.block.now)) p c.in-Some-length.size defined (search rules) in
    omega (arith, same, size, c.in_ok-make_room.ensures.enough, ap length c.as_mut_slice.ensures.value)

pub returns-in-Some-write_message-clause-message : goal.returns-in-Some-write_message-clause-message
returns-in-Some-write_message-clause-message c = λ f knows.
    let p = c.in-Some.defined.now in
    let defined : defined_at c.args.env.now (byte_at 6 c.args.block.now) ≡ Some p = search rules in
    let fit = subst (λ o. IfSome o (λ p. SlotsFit (layout p ++ dev_layout p) c.args.slots.now)) defined c.requires.fit in
    let back : take c.make_room.new.bytes.len (c.write_message.new.bytes ++ drop (length c.write_message.new.bytes) c.make_room.new.bytes.items)
    ≡ c.write_message.new.bytes =
    all_written c.write_message.new.bytes c.make_room.new.bytes.items c.make_room.new.bytes.len (search rules) (search rules) in
    known_record f c.args.block.now c.args.env.now c.args.slots.now p c.in_ok-front.front.local c.in_ok-front.front.offset _
    (slice_is_bytes c.args.block.now c.type_inv.block) knows defined c.in_ok-front.ensures.local c.in_ok-front.ensures.offset c.in_ok-front.ensures.fits
    fit c.in-Some-write_message.ensures.stand (ap (take c.in-Some-write_message.end) back ∙ c.in-Some-write_message.ensures.text)
