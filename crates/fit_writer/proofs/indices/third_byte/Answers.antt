use Rattle.std.proofs.Common.{◌∙◌, ◌+◌, Bool, cond, drop, get_or, ap, sym, arith}
use Rattle.fit_record.specs.declared.definition.FieldDef.{FieldDef}
use Rattle.fit_from_messages.specs.declared.slot.Slot.{Slot}
use Rattle.fit_writer.proofs.IndexFacts.{is_third, not_third, third_over, third_walked}
use Rattle.fit_writer.proofs.OwnTimes.{stands_at}
use Rattle.fit_writer.specs.inner.Indices.{slot_byte, third_byte}
use Rattle.fit_from_messages.specs.Parts.{slot_stands}
use Rattle.fit_writer.proofs.indices.third_byte.Goals as goal

abbrev no_field : FieldDef
no_field = record { number = 0; size = 0; code = 0 }

abbrev no_slot : Slot
no_slot = record { place = 0; width = 0; count = 0 }

pub bounds-slots-place : goal.bounds-slots-place
bounds-slots-place c = omega (arith, c.loop-place-test.true, c.requires.many)

pub byte_at-requires : goal.byte_at-requires
byte_at-requires c =
    stands_at (slot_stands c.args.block.now) c.args.slots.now c.loop-place.place no_slot c.requires.stand (omega
    (arith, c.loop-place-test.true, c.requires.many))

pub returns-then-fields-place-eq3 : goal.returns-then-fields-place-eq3
returns-then-fields-place-eq3 c =
    let place = c.loop-place.place in
    let rest = third_byte c.args.block.now (drop (place + 1) c.args.fields.now) (drop (place + 1) c.args.slots.now) in
    let here = slot_byte c.args.block.now (get_or c.args.slots.now place no_slot) in
    c.byte_at.ensures
    ∙ sym (c.loop-place.invariant
    ∙ third_walked c.args.block.now c.args.fields.now c.args.slots.now place no_field no_slot c.requires.many c.loop-place-test.true
    ∙ ap (λ (b : Bool). cond b here rest) (is_third (get_or c.args.fields.now place no_field).number c.if-fields-place-eq3.true))

pub returns : goal.returns
returns c =
    sym (c.loop-place.invariant
    ∙ third_over c.args.block.now c.args.fields.now c.args.slots.now c.loop-place.place (omega (arith, c.loop-place-test.false)))

pub loop-place-preserved : goal.loop-place-preserved
loop-place-preserved c =
    let place = c.loop-place.place in
    let rest = third_byte c.args.block.now (drop (place + 1) c.args.fields.now) (drop (place + 1) c.args.slots.now) in
    let here = slot_byte c.args.block.now (get_or c.args.slots.now place no_slot) in
    c.loop-place.invariant
    ∙ third_walked c.args.block.now c.args.fields.now c.args.slots.now place no_field no_slot c.requires.many c.loop-place-test.true
    ∙ ap (λ (b : Bool). cond b here rest) (not_third (get_or c.args.fields.now place no_field).number c.if-fields-place-eq3.false)
