use Rattle.fit_rows.proofs.Common.{◌≡◌, ◌∙◌, ◌++◌, ◌∷◌, [], ap, ap₂, on_ok_weaker, field_key, frame_text}
use Rattle.std.specs.Prelude.{codes}
use Rattle.fit_texts.specs.Words.{unit_text}
use Rattle.fit_shown.specs.Frames.{two_cells}
use Rattle.fit_rows.proofs.template.push_field.Goals as goal

pub returns-clause-frames : goal.returns-clause-frames
returns-clause-frames c =
    let f = c.args.field.now in
    let before = c.as_slice-before.ensures.value in
    let name = c.as_bytes-name.ensures.value ∙ c.as_str.ensures.value ∙ c.field_label-label.ensures in
    let info = c.field_info-info.ensures.table in
    let own : c.in_ok-frame.frame ≡ frame_text c.args.end.now.items (field_key c.args.global f) = c.in_ok-frame.ensures
    ∙ (λ i. record { between = before i ++ two_cells (codes "field") (name i); code = f.code; size = f.size; info = info i }) in
    on_ok_weaker c.put_tail.result (λ put. c.in_ok-push.ensures.items ∙ ap (λ frame. c.args.frames.now.items ++ (frame ∷ [])) own) c.put_tail.ensures

pub returns-clause-end : goal.returns-clause-end
returns-clause-end c =
    let unit = c.as_bytes.ensures.value ∙ c.unit_text.ensures ∙ ap unit_text c.field_info-info.ensures.table in
    on_ok_weaker c.put_tail.result (λ put. put ∙ ap₂ (λ t u. (t ++ two_cells [] u) ++ codes ",,\n") c.clear.ensures.items unit) c.put_tail.ensures
