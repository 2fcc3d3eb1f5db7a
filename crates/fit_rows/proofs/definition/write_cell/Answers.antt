use Rattle.fit_rows.proofs.Common.{◌∙◌, ◌++◌, ap, high-decimal, take, unquoted}
use Rattle.std.proofs.Common.{ℕ, List, decimal}
use Rattle.fit_texts.proofs.AddedCells.{next_cell}
use Rattle.fit_rows.proofs.definition.write_cell.Goals as goal

pub returns-clause-text : goal.returns-clause-text
returns-clause-text c =
    let cell = decimal c.args.number in
    c.write_byte.ensures.text ∙ ap (λ (t : List ℕ). t ++ cell) c.write_text-at.ensures.text
    ∙ next_cell (take c.args.at c.args.row.now) cell (unquoted cell (high-decimal c.args.number))
