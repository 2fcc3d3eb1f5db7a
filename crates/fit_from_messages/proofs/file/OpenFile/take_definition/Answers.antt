use Rattle.std.proofs.Common.{rules, ◌∙◌, ap, sym, subst, refl}
use Rattle.std.proofs.lemmas.Result.{err_from_is_err_and}
use Rattle.std.specs.Prelude.{slice_set}
use Rattle.fit_base.proofs.ByteLists.{slice_is_bytes}
use Rattle.fit_record.specs.Records.{DefinitionFits}
use Rattle.fit_from_messages.specs.Parts.{byte_at}
use Rattle.fit_from_messages.specs.inner.OpenFiles.{begun_of}
use Rattle.fit_from_messages.proofs.DefinedSlots.{asked, definition_fits, fails_by, sound_then, stands_by, tested}
use Rattle.fit_from_messages.proofs.file.OpenFile.take_definition.Goals as goal

pub returns-in_err-definition-clause-err : goal.returns-in_err-definition-clause-err
returns-in_err-definition-clause-err c =
    let p = err_from_is_err_and c.from_residual.result c.from_residual.ensures.1 in
    rw (p.1, p.2) (c.in_err-definition.ensures.err (begun_of c.args.self.now))

pub add_definition-requires-clause-fits : goal.add_definition-requires-clause-fits
add_definition-requires-clause-fits c =
    subst (λ d. DefinitionFits d) (sym c.in_ok-definition.ensures.definition)
    (definition_fits c.args.block.now (slice_is_bytes c.args.block.now c.type_inv.block) c.in_ok-definition.ensures.readable)

pub dev_widths_fit-requires : goal.dev_widths_fit-requires
dev_widths_fit-requires c = asked c.args.self.now c.args.block.now c.add_definition.new.env c.as_slice.result.now c.in_ok-definition.definition c.requires.sound
    c.in_ok-definition.ensures.readable (slice_is_bytes c.args.block.now c.type_inv.block) c.in_ok-definition.ensures.definition (search rules)
    (c.as_slice.ensures ∙ c.in_ok-definition.ensures.slots)

pub returns-then-not-dev_widths_fit-clause-err : goal.returns-then-not-dev_widths_fit-clause-err
returns-then-not-dev_widths_fit-clause-err c =
    fails_by (begun_of c.args.self.now) c.args.block.now c.in_ok-definition.ensures.readable
    (tested c.args.self.now c.args.block.now c.add_definition.new.env c.as_slice.result.now c.in_ok-definition.definition c.requires.sound
    c.in_ok-definition.ensures.readable (slice_is_bytes c.args.block.now c.type_inv.block) c.in_ok-definition.ensures.definition (search rules)
    (c.as_slice.ensures ∙ c.in_ok-definition.ensures.slots) c.dev_widths_fit.result c.dev_widths_fit.ensures
    ∙ c.if-not-dev_widths_fit.true)

pub returns-clause-stands : goal.returns-clause-stands
returns-clause-stands c =
    stands_by (begun_of c.args.self.now) c.args.block.now c.in_ok-definition.ensures.readable
    (tested c.args.self.now c.args.block.now c.add_definition.new.env c.as_slice.result.now c.in_ok-definition.definition c.requires.sound
    c.in_ok-definition.ensures.readable (slice_is_bytes c.args.block.now c.type_inv.block) c.in_ok-definition.ensures.definition (search rules)
    (c.as_slice.ensures ∙ c.in_ok-definition.ensures.slots) c.dev_widths_fit.result c.dev_widths_fit.ensures
    ∙ c.if-not-dev_widths_fit.false)

pub returns-clause-sound : goal.returns-clause-sound
returns-clause-sound c =
    sound_then c.args.self.now c.args.block.now c.add_definition.new.env c.as_slice.result.now c.in_ok-definition.definition c.requires.sound
    c.in_ok-definition.ensures.readable (slice_is_bytes c.args.block.now c.type_inv.block) c.in_ok-definition.ensures.definition (search rules)
    (c.as_slice.ensures ∙ c.in_ok-definition.ensures.slots) _ (tested c.args.self.now c.args.block.now c.add_definition.new.env c.as_slice.result.now
    c.in_ok-definition.definition c.requires.sound
    c.in_ok-definition.ensures.readable (slice_is_bytes c.args.block.now c.type_inv.block) c.in_ok-definition.ensures.definition (search rules)
    (c.as_slice.ensures ∙ c.in_ok-definition.ensures.slots) c.dev_widths_fit.result c.dev_widths_fit.ensures ∙ c.if-not-dev_widths_fit.false)
    refl (search rules) refl
    (c.set_slots.ensures.set ∙ ap (slice_set c.args.self.now.slots (byte_at 5 c.args.block.now)) (c.in_ok-of.ensures ∙ sym c.as_slice.ensures))
