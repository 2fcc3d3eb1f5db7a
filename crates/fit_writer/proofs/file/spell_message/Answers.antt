use Rattle.std.proofs.Common.{◌∙◌, ◌++◌, List, sym, subst}
use Rattle.fit_record.proofs.MessageSizes.{message_size_is}
use Rattle.fit_record.specs.Records.{dev_layout, layout}
use Rattle.std.specs.Global.{Global}
use Rattle.fit_record.specs.declared.environment.Defined.{Defined}
use Rattle.fit_from_messages.specs.Slots.{SlotsFit}
use Rattle.fit_from_messages.specs.declared.slot.Slot.{Slot}
use Rattle.fit_writer.proofs.LoneForms.{spelled_as}
use Rattle.fit_writer.proofs.file.spell_message.Goals as goal

pub spell_lone-requires-clause-slots : goal.spell_lone-requires-clause-slots
spell_lone-requires-clause-slots c =
    let p : Defined Global = record { definition = c.args.lone.now.definition; dev_codes = c.args.lone.now.codes } in (
      p,
      subst (λ (ss : List Slot). SlotsFit (layout p ++ dev_layout p) ss) (sym c.as_slice.ensures) c.requires.lone.slots_fit,
      c.body_length-size.ensures.length ∙ sym (message_size_is p c.requires.lone.many),
    )

pub returns-in-Ok-clause-message : goal.returns-in-Ok-clause-message
returns-in-Ok-clause-message c =
    spelled_as c.args.lone.now c.args.block.now c.args.order c.args.front.local c.args.front.offset c.as_slice.result.now _ c.as_slice.ensures
    c.in-Ok.ensures.message
