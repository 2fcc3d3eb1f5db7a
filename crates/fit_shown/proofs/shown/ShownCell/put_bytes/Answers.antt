use Rattle.fit_shown.proofs.Common.{◌∙◌, ◌++◌, sym, ap, and_sheet, CellKey}
use Rattle.fit_base.proofs.ByteLists.{slice_is_bytes}
use Rattle.fit_shown.proofs.ShownCells.{lone_read}
use Rattle.fit_shown.specs.inner.FieldForms.{field_meaning}
use Rattle.fit_texts.proofs.ItemFacts.{lone_below}
use Rattle.fit_texts.proofs.Sheets.{more_written}
use Rattle.fit_shown.proofs.shown.ShownCell.put_bytes.Goals as goal

pub write_formed-requires-clause-bits : goal.write_formed-requires-clause-bits
write_formed-requires-clause-bits c =
    let long = c.requires.length ∙ ap (λ (k : CellKey). k.size) (sym c.self.view_is) in
    lone_below c.args.order c.args.bytes.now c.in-Some.form.width c.bits_at-bits.result (slice_is_bytes c.args.bytes.now c.type_inv.bytes)
    (long ∙ sym c.in-Some.ensures.width) c.bits_at-bits.ensures

pub returns-in-Some-clause-text : goal.returns-in-Some-clause-text
returns-in-Some-clause-text c =
    let f = c.self.inside.form in
    let before = and_sheet c.args.text.now.items c.args.sheet.now c.args.at in
    let form = c.in-Some.ensures in
    let long = c.requires.length ∙ ap (λ (k : CellKey). k.size) (sym c.self.view_is) in
    let bits = c.bits_at-bits in
    let both = lone_read c.in-Some.form f c.args.order c.args.bytes.now bits.result form.small form.width form.form long bits.ensures in
    rw (sym c.self.view_is)
    (more_written _ _ _ _ c.args.at c.write_formed.result (c.write_formed.ensures.text f.code.0 (field_meaning f) form.form)
    ∙ ap (λ t. before ++ t) (sym both.1))
