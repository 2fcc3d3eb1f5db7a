use Rattle.std.proofs.Common.{◌∙◌, List, ◌∷◌, ap, refl}
use Rattle.std.specs.Global.{Global}
use Rattle.fit_record.specs.declared.definition.FieldDef.{FieldDef}
use Rattle.fit_record.specs.declared.definition.MessageDef.{MessageDef}
use Rattle.fit_from_messages.specs.declared.slot.Slot.{Slot}
use Rattle.fit_writer.proofs.LoneForms.{stamped_form, stamped_lone}
use Rattle.fit_writer.proofs.forms.dated.Goals as goal
use Rattle.fit_writer.proofs.forms.dated.Goals.{After-result-1}
use Rattle.fit_from_messages.specs.declared.alone.LoneDefinition.{LoneDefinition}

abbrev now : After-result-1 → LoneDefinition
now c = record { definition = c.in_ok-definition.definition; codes = c.in_ok-codes.codes; slots = c.in_ok-slots.slots; dev = c.args.lone.now.dev }

pub returns-clause-form : goal.returns-clause-form
returns-clause-form c =
    stamped_form c.args.lone.now (now c) (record {
      definition = c.in_ok-definition.ensures
          ∙ ap (λ (fs : List FieldDef). let d : MessageDef Global = record c.args.lone.now.definition { fields = fs } in d)
          (c.in_ok-fields.ensures ∙ ap (λ (fs : List FieldDef). record { number = 253; size = 4; code = 0x86 } ∷ fs) c.as_slice.ensures);
      codes = c.in_ok-codes.ensures ∙ c.as_slice-2.ensures;
      slots = c.in_ok-slots.ensures ∙ ap (λ (ss : List Slot). record { place = 32; width = 4; count = 1 } ∷ ss) c.as_slice-3.ensures;
      dev = refl;
    })

pub returns-clause-lone : goal.returns-clause-lone
returns-clause-lone c =
    stamped_lone c.args.lone.now (now c) c.requires.lone c.requires.room (record {
      definition = c.in_ok-definition.ensures
          ∙ ap (λ (fs : List FieldDef). let d : MessageDef Global = record c.args.lone.now.definition { fields = fs } in d)
          (c.in_ok-fields.ensures ∙ ap (λ (fs : List FieldDef). record { number = 253; size = 4; code = 0x86 } ∷ fs) c.as_slice.ensures);
      codes = c.in_ok-codes.ensures ∙ c.as_slice-2.ensures;
      slots = c.in_ok-slots.ensures ∙ ap (λ (ss : List Slot). record { place = 32; width = 4; count = 1 } ∷ ss) c.as_slice-3.ensures;
      dev = refl;
    })
