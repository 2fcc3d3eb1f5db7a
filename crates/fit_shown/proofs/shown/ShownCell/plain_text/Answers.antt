use Rattle.fit_shown.proofs.Common.{◌∙◌, sym, ap, subst, list_all, CellKey, Global}
use Rattle.fit_profile.specs.Described.{is_printable}
use Rattle.fit_record.specs.ReadMessages.{field_from}
use Rattle.fit_shown.proofs.ShownCells.{printable_shown}
use Rattle.fit_shown.proofs.TextCells.{text_cell}
use Rattle.fit_shown.specs.inner.FieldForms.{IsFieldKind, field_meaning}
use Rattle.fit_shown.proofs.shown.ShownCell.plain_text.Goals as goal

pub returns-then-is_shown : goal.returns-then-is_shown
returns-then-is_shown c order =
    let f = c.self.inside.form in
    let shown = c.in_ok-text.ensures.text in
    let long = c.requires ∙ ap (λ (k : CellKey). k.size) (sym c.self.view_is) in
    let class = subst (IsFieldKind f.code.0 f.size) c.in-Text.is c.self.invariant.kind in
    let is = text_cell Global order f.code.0 f.size (field_meaning f) c.args.bytes.now class long in
    let plain = ap (list_all is_printable) (is ∙ sym shown) ∙ sym c.is_shown.ensures ∙ c.if-is_shown.true in
    rw (sym c.self.view_is)
    (shown ∙ sym (printable_shown f.code.0 (field_meaning f) (field_from {A = Global} order (f.code.0, f.size) c.args.bytes.now) plain ∙ is))
