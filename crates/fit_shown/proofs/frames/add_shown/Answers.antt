use Rattle.fit_shown.proofs.Common.{◌≡◌, ◌∙◌, ◌++◌, ap, sym, false, and_sheet, default_writer, needs_quotes}
use Rattle.std.proofs.lemmas.Result.{IfOk-weaker}
use Rattle.fit_shown.proofs.TextCells.{unquoted}
use Rattle.fit_shown.proofs.frames.add_shown.Goals as goal

pub returns-clause-text : goal.returns-clause-text
returns-clause-text c =
    let shown = c.args.shown.text.now in
    let before = and_sheet c.args.text.now.items c.args.sheet.now c.args.at in
    let none : needs_quotes default_writer shown ≡ false = cc in
    IfOk-weaker c.add_text.result _ _ (λ e put. put ∙ ap (λ t. before ++ t) (sym (unquoted shown none))) c.add_text.ensures.text
