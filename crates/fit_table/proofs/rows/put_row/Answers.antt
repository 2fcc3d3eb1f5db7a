use Rattle.fit_table.proofs.Common.{◌∙◌, ◌++◌, [], ap, map, on_ok_weaker, effort_cells, place_cells, sym}
use Rattle.std.proofs.Common.{ℕ}
use Rattle.std.specs.Prelude.{unwrap_or, Option}
use Rattle.fit_cells.specs.Rows.{Cell}
use Rattle.fit_table.proofs.BegunRows.{row_begun}
use Rattle.fit_table.proofs.rows.put_row.Goals as goal

pub returns-in-Some : goal.returns-in-Some
returns-in-Some c = on_ok_weaker c.put_begun.result (λ ends d v t are timed.
    let (like, is, fits) = c.in-Some.ensures in
    let numbers = map (λ (cell : Option Cell). unwrap_or cell []) (place_cells d v t ++ effort_cells d v t) in
    record {
      text = row_begun c.args.text.now.items c.put_begun.new.text.items c.args.file c.in-Some.front.now.0 c.in-Some.time t.time numbers
          (ap (λ (p : ℕ × ℕ). p.0) like) fits (sym is ∙ timed) (ends d v t are);
    }) c.put_begun.ensures
