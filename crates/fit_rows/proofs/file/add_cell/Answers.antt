use Rattle.fit_rows.proofs.Common.{◌∙◌, ◌++◌, ◌∷◌, [], ap, append_assoc, default_writer, field_text, fields_one, on_ok_weaker, sym}
use Rattle.std.proofs.Common.{ℕ, List}
use Rattle.fit_rows.proofs.file.add_cell.Goals as goal

pub returns : goal.returns
returns c = on_ok_weaker c.put_lone.result (λ put.
    let own = field_text default_writer c.args.cell.now in
    put ∙ ap (λ (t : List ℕ). t ++ own) c.in_ok-push.ensures.items ∙ append_assoc c.args.text.now.items (44 ∷ []) own
    ∙ ap (λ (t : List ℕ). c.args.text.now.items ++ t) (sym (fields_one c.args.cell.now))) c.put_lone.ensures.ok
