use Rattle.std.proofs.Common.{◌∙◌, List, sym, ap, subst}
use Rattle.fit_record.specs.declared.definition.FieldDef.{FieldDef}
use Rattle.fit_writer.proofs.OwnTimes.{fields_fit, first_is}
use Rattle.fit_writer.specs.inner.Forms.{FieldsFit, first_time}
use Rattle.fit_writer.proofs.times.own_time.Goals as goal

pub first_time-requires-clause-fit : goal.first_time-requires-clause-fit
first_time-requires-clause-fit c =
    subst (λ (fs : List FieldDef). FieldsFit fs c.args.slots.now) (sym c.as_slice.ensures)
    (fields_fit c.args.definition.now.fields _ c.args.slots.now c.requires.fit.1)

pub returns : goal.returns
returns c =
    c.first_time.ensures ∙ ap (λ (fs : List FieldDef). first_time c.args.block.now fs c.args.slots.now) c.as_slice.ensures
    ∙ sym (first_is c.args.block.now c.args.definition.now.fields c.args.slots.now
    (fields_fit c.args.definition.now.fields _ c.args.slots.now c.requires.fit.1))
