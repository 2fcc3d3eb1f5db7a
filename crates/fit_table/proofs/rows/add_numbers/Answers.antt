use Rattle.fit_table.proofs.Common.{◌∙◌, ◌++◌, ◌∷◌, [], ap, map, take, effort_cells, place_cells}
use Rattle.std.proofs.Common.{List, ℕ}
use Rattle.std.specs.Prelude.{unwrap_or, Option}
use Rattle.fit_cells.specs.Rows.{Cell}
use Rattle.fit_texts.proofs.AddedCells.{more_cells}
use Rattle.fit_table.proofs.rows.add_numbers.Goals as goal

pub returns-clause-cells : goal.returns-clause-cells
returns-clause-cells c d v t are =
    let place = map (λ (cell : Option Cell). unwrap_or cell []) (place_cells d v t) in
    let effort = map (λ (cell : Option Cell). unwrap_or cell []) (effort_cells d v t) in
    let before = take c.add_place-at.result c.add_place-at.new.row in
    let cells = take c.add_effort-at.result c.add_effort-at.new.row in
    c.write_byte.ensures.text ∙ ap (λ (text : List ℕ). text ++ (10 ∷ []))
    (more_cells (take c.args.at c.args.row.now) before cells place effort (c.add_place-at.ensures.cells d v t are) (c.add_effort-at.ensures.cells d v t are))
