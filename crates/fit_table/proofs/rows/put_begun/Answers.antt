use Rattle.fit_table.proofs.Common.{◌++◌, ◌∷◌, [], instant_text, map, on_ok_weaker, take, effort_cells, place_cells}
use Rattle.std.proofs.Common.{decimal}
use Rattle.std.specs.Prelude.{unwrap_or, Option}
use Rattle.fit_cells.specs.Rows.{Cell}
use Rattle.fit_table.proofs.BegunRows.{put_from_start}
use Rattle.fit_table.proofs.rows.put_begun.Goals as goal

pub returns : goal.returns
returns c = on_ok_weaker c.put_written.result (λ put d v t are.
    put_from_start c.args.text.now.items c.args.row.now (decimal c.args.front.now.0 ++ (44 ∷ instant_text c.args.time))
    (take c.write-at.result c.write-at.new.row) (take c.add_numbers-end.result c.add_numbers-end.new.row) c.put_written.new.text.items
    (map (λ (cell : Option Cell). unwrap_or cell []) (place_cells d v t ++ effort_cells d v t)) c.write-at.ensures.text
    (c.add_numbers-end.ensures.cells d v t are) put) c.put_written.ensures
