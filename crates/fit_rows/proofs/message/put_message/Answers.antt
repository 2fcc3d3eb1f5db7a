use Rattle.fit_rows.proofs.Common.{◌∙◌, ap, option_and_then}
use Rattle.std.proofs.lemmas.Option.{same_Some}
use Rattle.fit_rows.proofs.OpenedRows.{opened_key}
use Rattle.fit_rows.proofs.message.put_message.Goals as goal

pub put_values-requires-clause-template : goal.put_values-requires-clause-template
put_values-requires-clause-template c =
    same_Some c.in-Some.template.now (opened_key c.args.stream.now c.args.message.now)
    (c.in-Some.ensures ∙ ap (option_and_then (λ t. t)) c.in_ok-find.ensures.found)
