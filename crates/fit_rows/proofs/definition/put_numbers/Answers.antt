use Rattle.fit_rows.proofs.Common.{◌∙◌, ◌++◌, ap, on_ok_weaker}
use Rattle.std.proofs.Common.{ℕ, List}
use Rattle.fit_rows.proofs.definition.put_numbers.Goals as goal

pub returns : goal.returns
returns c = on_ok_weaker c.put_written.result (λ put. record { text = put ∙ ap (λ (t : List ℕ). c.args.text.now.items ++ t) c.write_row-end.ensures.text })
    c.put_written.ensures
