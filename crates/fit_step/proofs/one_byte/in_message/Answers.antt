use Rattle.fit_step.proofs.Common.{sym, subst, TakesNone}
use Rattle.fit_step.proofs.InPlace.{not_reading, reads_defined, sound_of, fields_read, dev_read}
use Rattle.std.proofs.lemmas.Result.{on_err_weaker}
use Rattle.fit_step.proofs.one_byte.in_message.Goals as goal

pub defined-requires : goal.defined-requires
defined-requires g c = assumption

pub unreachable-requires : goal.unreachable-requires
unreachable-requires g c = reads_defined c.args.env.now c.args.phase.now c.args.values.now c.args.partial.now c.requires.reads c.in_default.ensures.place

pub unreachable-requires-in_default-phase : goal.unreachable-requires-in_default-phase
unreachable-requires-in_default-phase g c =
    not_reading c.args.env.now c.args.phase.now c.args.values.now c.args.partial.now c.requires.reads c.in_default-phase.not-FieldItems
    c.in_default-phase.not-DevItems

pub at_field_items-requires : goal.at_field_items-requires
at_field_items-requires g c =
    let at = c.in-FieldItems in
    let place = c.in-Some.ensures.place in
    let read = fields_read c.args.env.now c.args.phase.now c.args.values.now c.args.partial.now at.place at.width at.left c.in-Some.defined.now place at.is
    c.requires.reads in
    record { sound = sound_of place c.in-Some.ensures.sound; reading = read.0; fields = read.1 }

pub returns-in-FieldItems : goal.returns-in-FieldItems
returns-in-FieldItems g c =
    let told = c.at_field_items.ensures in
    record {
      made = rw c.in-FieldItems.is (told.made c.args.env.now c.args.room.now (sym c.in-Some.ensures.place));
      err = on_err_weaker c.at_field_items.result (λ same. same.2) told.err;
      free = λ none. told.free (subst (λ k. TakesNone c.args.env.now k c.args.partial.now c.args.byte) c.in-FieldItems.is none);
    }

pub at_dev_items-requires : goal.at_dev_items-requires
at_dev_items-requires g c =
    let at = c.in-DevItems in
    let place = c.in-Some.ensures.place in
    let sound = sound_of place c.in-Some.ensures.sound in
    let read = dev_read c.args.env.now c.args.phase.now c.args.values.now c.args.partial.now at.place at.width at.left c.in-Some.defined.now place at.is sound
    c.requires.reads in
    record { sound = sound; reading = read.0; dev = read.1 }

pub returns-in-DevItems : goal.returns-in-DevItems
returns-in-DevItems g c =
    let told = c.at_dev_items.ensures in
    record {
      made = rw c.in-DevItems.is (told.made c.args.env.now c.args.room.now (sym c.in-Some.ensures.place));
      err = on_err_weaker c.at_dev_items.result (λ same. same.2) told.err;
      free = λ none. told.free (subst (λ k. TakesNone c.args.env.now k c.args.partial.now c.args.byte) c.in-DevItems.is none);
    }
