use Rattle.std.proofs.Common.{rules, ◌≡◌, ◌∙◌, ◌∷◌, ◌++◌, ap, sym, arith, take, drop, length, flat_map}
use Rattle.fit_base.specs.Fields.{items_bytes}
use Rattle.fit_from_messages.specs.Parts.{items_read}
use Rattle.fit_base.proofs.ByteLists.{slice_is_bytes}
use Rattle.fit_record.specs.Records.{data_header, dev_layout, layout}
use Rattle.fit_from_messages.proofs.MessageFacts.{all_written, are_slots, lone_record, same_size}
use Rattle.fit_from_messages.proofs.alone.spell_lone.Goals as goal

pub write_lone-requires-clause-slots : goal.write_lone-requires-clause-slots
write_lone-requires-clause-slots c =
    let p = c.requires.slots.0 in
    are_slots (layout p ++ dev_layout p) c.args.slots.now c.requires.slots.1

pub write_lone-requires-clause-room : goal.write_lone-requires-clause-room
write_lone-requires-clause-room c =
    let p = c.requires.slots.0 in
    let same = same_size (layout p ++ dev_layout p) c.args.slots.now c.requires.slots.1 in
    omega (arith, same, c.requires.slots.2, c.in_ok-make_room.ensures.enough, ap length c.as_mut_slice.ensures.value)

pub returns-in-Some-clause-message : goal.returns-in-Some-clause-message
returns-in-Some-clause-message c = λ e p defined order fit.
    let back : take c.make_room.new.bytes.len (c.write_lone.new.bytes ++ drop (length c.write_lone.new.bytes) c.make_room.new.bytes.items)
    ≡ c.write_lone.new.bytes =
    all_written c.write_lone.new.bytes c.make_room.new.bytes.items c.make_room.new.bytes.len (search rules) (search rules) in
    lone_record e p c.args.block.now c.args.slots.now c.args.front.local c.args.front.offset _ (slice_is_bytes c.args.block.now c.type_inv.block) defined
    c.requires.fits fit c.in-Some.ensures.stand
    (ap (take c.in-Some.end) back ∙ c.in-Some.ensures.text
    ∙ ap (λ o. data_header c.args.front.local c.args.front.offset ∷ flat_map (λ s. items_bytes o (items_read c.args.block.now s)) c.args.slots.now)
    (sym order))
