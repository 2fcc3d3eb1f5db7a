use Rattle.fit_shown.proofs.Common.{◌∙◌, ◌++◌, refl, sym, ap, subst, and_sheet, field_text, default_writer, FrameText, Global}
use Rattle.std.proofs.lemmas.Result.{IfOk-weaker}
use Rattle.fit_shown.proofs.TextCells.{text_cell}
use Rattle.fit_shown.specs.inner.FieldForms.{IsFieldKind, field_meaning}
use Rattle.fit_shown.proofs.frames.Frame.add_read.Goals as goal

pub returns-in-Some-clause-text : goal.returns-in-Some-clause-text
returns-in-Some-clause-text c = rw (sym c.self.view_is) (IfOk-weaker c.in-Some.end _ _ (λ e both. both.0) c.in-Some.ensures.shown)

pub returns-in-Some-shown_text-clause-text : goal.returns-in-Some-shown_text-clause-text
returns-in-Some-shown_text-clause-text c =
    let f = c.self.inside.form in
    let long = c.requires.length ∙ ap (λ (k : FrameText). k.size) (sym c.self.view_is) in
    let class = subst (IsFieldKind f.code.0 f.size) c.in-Text.is c.self.invariant.kind in
    let is = c.in-Some-shown_text.ensures.text ∙ sym (text_cell Global c.args.order f.code.0 f.size (field_meaning f) c.args.bytes.now class long) in
    let same = c.in_default.ensures.none refl in
    rw (sym c.self.view_is)
    (IfOk-weaker c.add_shown.result _ _ (λ e put.
    put ∙ (λ i. and_sheet (same.0 i).items (same.1 i) c.args.at ++ field_text default_writer (is i))) c.add_shown.ensures.text)
