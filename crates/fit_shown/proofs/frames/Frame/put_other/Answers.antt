use Rattle.fit_shown.proofs.Common.{◌≡◌, ◌∙◌, ◌++◌, sym, ap, subst, cell, default_writer, field_text, item_width, FrameText}
use Rattle.std.proofs.lemmas.Result.{on_ok_weaker}
use Rattle.fit_shown.proofs.ShownCells.{shape_width}
use Rattle.fit_shown.specs.inner.FieldForms.{field_meaning}
use Rattle.fit_shown.proofs.frames.Frame.put_other.Goals as goal

pub put_cell-requires-clause-width : goal.put_cell-requires-clause-width
put_cell-requires-clause-width c =
    let f = c.self.inside.form in
    shape_width f.code.0 f.size c.args.items.now.width
    (subst (λ (k : FrameText). c.args.items.now.width ≡ item_width k.code k.size) (sym c.self.view_is) c.requires.width)

pub put_cell-requires-2-clause-width : goal.put_cell-requires-2-clause-width
put_cell-requires-2-clause-width c =
    let f = c.self.inside.form in
    shape_width f.code.0 f.size c.args.items.now.width
    (subst (λ (k : FrameText). c.args.items.now.width ≡ item_width k.code k.size) (sym c.self.view_is) c.requires.width)

pub returns-then-is_never_quoted : goal.returns-then-is_never_quoted
returns-then-is_never_quoted c =
    let f = c.self.inside.form in
    let plain = c.is_never_quoted.ensures.yes c.if-is_never_quoted.true (field_meaning f) c.args.items.now in
    rw (sym c.self.view_is)
    (on_ok_weaker c.put_cell.result (λ put. put ∙ ap (λ t. c.args.text.now.items ++ t) (sym plain)) c.put_cell.ensures.ok)

pub returns : goal.returns
returns c =
    let f = c.self.inside.form in
    let own = cell f.code.0 (field_meaning f) c.args.items.now in
    let is = c.as_slice.ensures.value ∙ c.in_ok-put_cell.ensures.ok ∙ ap (λ t. t ++ own) c.clear.ensures.items in
    rw (sym c.self.view_is)
    (on_ok_weaker c.put_lone.result (λ put. put ∙ ap (λ t. c.args.text.now.items ++ field_text default_writer t) is) c.put_lone.ensures.ok)
