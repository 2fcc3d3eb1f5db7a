use Rattle.fit_shown.proofs.Common.{◌∙◌, ◌++◌, refl, sym, ap, and_sheet}
use Rattle.std.proofs.lemmas.Result.{IfOk-weaker}
use Rattle.fit_texts.proofs.Sheets.{none_written}
use Rattle.fit_shown.specs.CellKeys.{field_in_line}
use Rattle.fit_shown.proofs.shown.ShownCell.add_read.Goals as goal

pub returns-in-Some-clause-text : goal.returns-in-Some-clause-text
returns-in-Some-clause-text c = rw (sym c.self.view_is) (IfOk-weaker c.in-Some.end _ _ (λ e both. both.1) c.in-Some.ensures.shown)

pub returns-in-Some-plain_text-clause-text : goal.returns-in-Some-plain_text-clause-text
returns-in-Some-plain_text-clause-text c =
    let same = c.in_default.ensures.none refl in
    let shown = c.in-Some-plain_text.ensures c.args.order in
    IfOk-weaker c.add_text.result _ _ (λ e put. put ∙ (λ i. and_sheet (same.0 i).items (same.1 i) c.args.at ++ shown i)) c.add_text.ensures.text

pub returns-clause-text : goal.returns-clause-text
returns-clause-text c =
    let same = c.in_default.ensures.none refl in
    none_written c.put_read.new.text.items c.add_from_bytes.new.sheet ∙ c.in_ok-put_read.ensures
    ∙ ap (λ t. t ++ field_in_line c.args.self.now c.args.order c.args.bytes.now)
    (c.in_ok-put_sheet.ensures ∙ (λ i. and_sheet (same.0 i).items (same.1 i) c.args.at))
