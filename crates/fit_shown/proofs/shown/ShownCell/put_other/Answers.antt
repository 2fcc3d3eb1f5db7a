use Rattle.fit_shown.proofs.Common.{◌≡◌, ◌∙◌, ◌++◌, length, sym, ap, subst, arith, list_all, cell, item_width, CellKey}
use Rattle.std.proofs.Common.{None}
use Rattle.fit_cells.proofs.TextParts.{text_before, text_after}
use Rattle.std.proofs.lemmas.Result.{on_ok_weaker}
use Rattle.fit_profile.specs.Described.{is_printable}
use Rattle.fit_shown.proofs.ShownCells.{hidden_shown, printable_shown, shape_width, wide_shown}
use Rattle.fit_shown.specs.inner.FieldForms.{field_meaning}
use Rattle.fit_shown.proofs.shown.ShownCell.put_other.Goals.{then-items-ne1-via-then-items-ne1, then-items-ne1-via-else-items-ne1+then-is_shown}
use Rattle.fit_shown.proofs.shown.ShownCell.put_other.Goals as goal

pub put_cell-requires-clause-width : goal.put_cell-requires-clause-width
put_cell-requires-clause-width c =
    let f = c.self.inside.form in
    shape_width f.code.0 f.size c.args.items.now.width
    (subst (λ (k : CellKey). c.args.items.now.width ≡ item_width k.code k.size) (sym c.self.view_is) c.requires.width)

pub returns-then-items-ne1 : goal.returns-then-items-ne1
returns-then-items-ne1 c =
    let f = c.self.inside.form in
    let text = c.args.text.now.items in
    let items = c.args.items.now in
    let own = cell f.code.0 (field_meaning f) items in
    let long : c.len-start.result ≡ length text = omega (arith, c.len-start.ensures) in
    rw (sym c.self.view_is)
    (c.in_ok-put_cell.ensures.ok ∙ ap (λ t. text ++ t) (sym (elim c.then-items-ne1.branch [
      | then-items-ne1-via-then-items-ne1 w ↦ wide_shown f.code.0 (field_meaning f) items w.if-items-ne1.true
      | then-items-ne1-via-else-items-ne1+then-is_shown w ↦
          printable_shown f.code.0 (field_meaning f) items
          (ap (list_all is_printable)
          (sym (c.split_at.ensures.back
          ∙ text_after text own c.as_slice.result.now c.len-start.result (c.as_slice.ensures.value ∙ c.in_ok-put_cell.ensures.ok) long))
          ∙ sym w.is_shown.ensures ∙ w.if-is_shown.true)
    ])))

pub returns : goal.returns
returns c =
    let f = c.self.inside.form in
    let text = c.args.text.now.items in
    let items = c.args.items.now in
    let own = cell f.code.0 (field_meaning f) items in
    let long : c.len-start.result ≡ length text = omega (arith, c.len-start.ensures) in
    let put = c.in_ok-put_cell.ensures.ok in
    let shown = ap (list_all is_printable)
    (sym (c.split_at.ensures.back ∙ text_after text own c.as_slice.result.now c.len-start.result (c.as_slice.ensures.value ∙ put) long))
    ∙ sym c.is_shown.ensures ∙ c.if-is_shown.false in
    let cut = c.truncate.ensures.items ∙ text_before text own c.put_cell.new.text.items c.len-start.result put long in
    rw (sym c.self.view_is)
    (on_ok_weaker c.put_cell-2.result (λ done.
    done ∙ ap (λ t. t ++ cell 0x0D None items) cut ∙ ap (λ t. text ++ t) (sym (hidden_shown f.code.0 (field_meaning f) items c.if-items-ne1.false shown)))
    c.put_cell-2.ensures.ok)
