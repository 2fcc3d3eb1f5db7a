use Rattle.fit_rows.proofs.Common.{◌∙◌, ◌++◌, ap, high-decimal, on_ok_weaker, unquoted}
use Rattle.std.proofs.Common.{ℕ, List, decimal}
use Rattle.fit_texts.proofs.AddedCells.{next_cell}
use Rattle.fit_rows.proofs.definition.add_number.Goals as goal

pub returns : goal.returns
returns c = on_ok_weaker c.put_whole.result (λ put.
    let cell = decimal c.args.number in
    put ∙ ap (λ (t : List ℕ). t ++ cell) c.in_ok-push.ensures.items
    ∙ next_cell c.args.text.now.items cell (unquoted cell (high-decimal c.args.number))) c.put_whole.ensures.ok
