use Rattle.fit_show.proofs.Common.{◌∙◌, ◌++◌, ap, sym, and_sheet, line_front, time_part, MessageKey}
use Rattle.std.proofs.Common.{codes}
use Rattle.std.proofs.lemmas.List.{append-nil}
use Rattle.std.proofs.lemmas.Result.{IfOk-weaker}
use Rattle.fit_texts.proofs.Sheets.{none_written}
use Rattle.fit_show.proofs.ShownLines.{time_put}
use Rattle.fit_show.proofs.template.LineTemplate.put_label.Goals as goal

pub returns-in_ok-at-in-Some-clause-text : goal.returns-in_ok-at-in-Some-clause-text
returns-in_ok-at-in-Some-clause-text c = IfOk-weaker c.add-in-Some.result _ _ (λ end put.
    let key : MessageKey = c.args.self.now in
    let old = c.args.text.now.items in
    let timed = c.self.invariant.3 ∙ ap (λ (k : MessageKey). line_front k.own.local k.own.global ++ codes " ") c.self.view_is in
    time_put old (line_front key.own.local key.own.global) (and_sheet c.add.new.text.items c.add.new.sheet c.in_ok-at-in-Some.at)
    (and_sheet c.add-in-Some.new.text.items c.add-in-Some.new.sheet end) c.in-Some.time
    (c.in_ok-at-in-Some.ensures.text ∙ ap (λ t. t ++ c.self.inside.timed) (none_written old c.args.sheet.now) ∙ ap (λ t. old ++ t) timed) put
    ∙ ap (λ at. old ++ (line_front key.own.local key.own.global ++ time_part at)) (sym c.in-Some.is)) c.add-in-Some.ensures.text

pub returns-in-None-clause-text : goal.returns-in-None-clause-text
returns-in-None-clause-text c = IfOk-weaker c.add-in-None.result _ _ (λ end put.
    let key : MessageKey = c.args.self.now in
    let old = c.args.text.now.items in
    let front = c.self.invariant.0 ∙ ap (λ (k : MessageKey). line_front k.own.local k.own.global) c.self.view_is in
    put ∙ ap (λ t. t ++ c.self.inside.front) (none_written old c.args.sheet.now)
    ∙ ap (λ t. old ++ t) (front ∙ sym (append-nil (line_front key.own.local key.own.global)))
    ∙ ap (λ at. old ++ (line_front key.own.local key.own.global ++ time_part at)) (sym c.in-None.is)) c.add-in-None.ensures.text
