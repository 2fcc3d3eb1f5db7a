use Rattle.std.proofs.Common.{◌∙◌, ◌+◌, Bool, cond, drop, get_or, ap}
use Rattle.fit_record.specs.declared.definition.FieldDef.{FieldDef}
use Rattle.fit_from_messages.specs.declared.slot.Slot.{Slot}
use Rattle.fit_writer.proofs.OwnTimes.{at_place, not_timestamp, walked}
use Rattle.fit_writer.specs.inner.Forms.{first_time, slot_time}
use Rattle.fit_writer.proofs.times.first_time.Goals as goal

abbrev no_field : FieldDef
no_field = record { number = 0; size = 0; code = 0 }

abbrev no_slot : Slot
no_slot = record { place = 0; width = 0; count = 0 }

pub bounds-slots-place : goal.bounds-slots-place
bounds-slots-place c = (at_place c.args.fields.now c.args.slots.now c.loop-place.place no_field no_slot c.requires.fit c.loop-place-test.true).0

pub time_at-requires-clause-width : goal.time_at-requires-clause-width
time_at-requires-clause-width c =
    (at_place c.args.fields.now c.args.slots.now c.loop-place.place no_field no_slot c.requires.fit c.loop-place-test.true).1

pub time_at-requires-clause-size : goal.time_at-requires-clause-size
time_at-requires-clause-size c =
    (at_place c.args.fields.now c.args.slots.now c.loop-place.place no_field no_slot c.requires.fit c.loop-place-test.true).2

pub loop-place-preserved : goal.loop-place-preserved
loop-place-preserved c =
    let place = c.loop-place.place in
    let rest = first_time c.args.block.now (drop (place + 1) c.args.fields.now) (drop (place + 1) c.args.slots.now) in
    let here = slot_time c.args.block.now (get_or c.args.fields.now place no_field) (get_or c.args.slots.now place no_slot) in
    c.loop-place.invariant ∙ walked c.args.block.now c.args.fields.now c.args.slots.now place no_field no_slot c.requires.fit c.loop-place-test.true
    ∙ ap (λ (b : Bool). cond b here rest) (not_timestamp (get_or c.args.fields.now place no_field).number c.if-fields-place.false)
