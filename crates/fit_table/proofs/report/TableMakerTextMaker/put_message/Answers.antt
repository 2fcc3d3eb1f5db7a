use Rattle.std.proofs.Common.{Some}
use Rattle.std.proofs.lemmas.List.{append-nil}
use Rattle.std.proofs.lemmas.Option.{same_Some}
use Rattle.fit_record.specs.MessageBytes.{message_in}
use Rattle.fit_report.specs.Heard.{latest_records}
use Rattle.fit_table.proofs.Common.{◌≡◌, ◌∙◌, ◌++◌, ap, ap₂, on_ok_weaker, option_and_then, subst, sym, csv_text, defined_at, files_heard, known}
use Rattle.fit_table.proofs.Common.{table_message_rows, HasRows}
use Rattle.fit_table.proofs.RowsInBytes.{row_of_other}
use Rattle.fit_table.proofs.report.TableMakerTextMaker.put_message.Goals as goal

pub returns-then-message-ne-RECORD-clause-text : goal.returns-then-message-ne-RECORD-clause-text
unfolding csv_text
returns-then-message-ne-RECORD-clause-text c heard before file =
    let m = c.args.message.now in
    let text = c.args.text.now.items in
    let none = row_of_other (files_heard heard) (latest_records heard) (message_in m) m.defined.now
    (subst (λ b. defined_at (known b) m.local ≡ Some m.defined.now) before c.requires.opened.defined) c.if-message-ne-RECORD.true in
    sym (ap (λ rows. text ++ csv_text rows) none ∙ append-nil text)

pub put_by-requires-clause-fields : goal.put_by-requires-clause-fields
put_by-requires-clause-fields c =
    let columns = c.in-Some.columns.now in
    let fields = c.args.message.now.defined.now.definition.fields in
    sym (same_Some columns fields (c.in-Some.ensures ∙ ap (option_and_then (λ t. t)) c.in_ok-find.ensures.found))

pub returns-clause-text : goal.returns-clause-text
returns-clause-text c =
    let old = c.args.text.now in
    let v = message_in c.args.message.now in
    on_ok_weaker c.put_by.result
    (λ (row : HasRows (table_message_rows c.args.moment.file c.args.stream.now v) old c.put_by.new.text). λ heard before file.
    row.text ∙ ap₂ (λ n b. old.items ++ csv_text (table_message_rows n b v)) file before) c.put_by.ensures
