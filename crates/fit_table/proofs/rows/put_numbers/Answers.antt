use Rattle.fit_table.proofs.Common.{◌++◌, [], map, on_ok_weaker, take, effort_cells, place_cells}
use Rattle.std.specs.Prelude.{unwrap_or, Option}
use Rattle.fit_cells.specs.Rows.{Cell}
use Rattle.fit_table.proofs.BegunRows.{put_alone}
use Rattle.fit_table.proofs.rows.put_numbers.Goals as goal

pub returns : goal.returns
returns c = on_ok_weaker c.put_written.result (λ put d v t are.
    put_alone c.args.text.now.items c.args.row.now (take c.add_numbers-end.result c.add_numbers-end.new.row) c.put_written.new.text.items
    (map (λ (cell : Option Cell). unwrap_or cell []) (place_cells d v t ++ effort_cells d v t)) (c.add_numbers-end.ensures.cells d v t are) put)
    c.put_written.ensures
