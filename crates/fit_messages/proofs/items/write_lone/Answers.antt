use Rattle.std.proofs.Common.{◌∙◌, ◌++◌, ap, sym, take}
use Rattle.std.specs.Prelude.{flat_map}
use Rattle.std.specs.Global.{Global}
use Rattle.fit_record.specs.ReadMessages.{fields_from}
use Rattle.fit_messages.specs.Blocks.{slot}
use Rattle.fit_messages.proofs.items.write_lone.Goals as goal

pub returns-in-Little-clause-text : goal.returns-in-Little-clause-text
returns-in-Little-clause-text c =
    let a = c.args in
    c.write_lone_in.ensures.text
    ∙ ap (λ o. take a.start a.sheet.now ++ flat_map slot (fields_from {A = Global} o a.layout.now a.body.now)) (sym c.in-Little.is)

pub returns-in-Big-clause-text : goal.returns-in-Big-clause-text
returns-in-Big-clause-text c =
    let a = c.args in
    c.write_lone_in-in-Big.ensures.text
    ∙ ap (λ o. take a.start a.sheet.now ++ flat_map slot (fields_from {A = Global} o a.layout.now a.body.now)) (sym c.in-Big.is)
