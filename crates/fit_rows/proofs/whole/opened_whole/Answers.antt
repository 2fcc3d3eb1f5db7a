use Rattle.fit_rows.proofs.Common.{◌≡◌, ◌∙◌, ◌++◌, ◌+◌, length, sym, ap, option_and_then, csv_text, data_rows, frame_keys, MessageKey}
use Rattle.std.proofs.Common.{List, ℕ}
use Rattle.std.proofs.lemmas.Option.{same_Some}
use Rattle.fit_record.specs.MessageBytes.{message_in}
use Rattle.fit_rows.proofs.OpenedRows.{opened_counted, opened_key}
use Rattle.fit_rows.proofs.whole.opened_whole.Goals as goal

pub put_values-requires-clause-template : goal.put_values-requires-clause-template
put_values-requires-clause-template c =
    same_Some c.in-Some.template.now (opened_key c.args.before.now c.args.message.now)
    (c.in-Some.ensures ∙ ap (option_and_then (λ t. t)) c.in_ok-find.ensures.found)

pub returns-clause-whole : goal.returns-clause-whole
returns-clause-whole c =
    let before = c.args.before.now in
    let m = c.args.message.now in
    let rows = csv_text (data_rows before (message_in m)) in
    let written : c.put_values.new.text.items ≡ rows =
    c.in_ok-put_values.ensures.text ∙ ap (λ (t : List ℕ). t ++ rows) c.clear.ensures.items in
    let left = c.in-Some-after_beginning.left.now in
    let kept = same_Some c.in-Some.template.now (opened_key before m)
    (c.in-Some.ensures ∙ ap (option_and_then (λ t. t)) c.in_ok-find.ensures.found) in
    record {
      text = (rw c.in-Some-after_beginning.is at c.after_beginning.ensures.some) ∙ ap (λ (t : List ℕ). t ++ left) (c.as_slice.ensures.value ∙ written);
      rows = c.row_count.ensures ∙ ap (λ (k : MessageKey). 1 + length (frame_keys k)) kept ∙ sym (opened_counted before m c.requires.opened);
      tells = c.tells.ensures;
    }
