use Rattle.fit_table.proofs.Common.{◌∙◌, ◌++◌, ◌∷◌, [], ap, default_writer, fields_text, high-decimal, instant_text, map, on_ok_weaker, unquoted}
use Rattle.fit_table.proofs.Common.{effort_cells, place_cells, sym}
use Rattle.std.proofs.Common.{decimal, ℕ}
use Rattle.std.specs.Prelude.{option_map, unwrap_or, Option}
use Rattle.fit_cells.specs.Rows.{Cell}
use Rattle.fit_texts.proofs.AddedCells.{row_in_parts}
use Rattle.fit_table.proofs.BegunRows.{row_begun}
use Rattle.fit_table.proofs.rows.put_first_row.Goals as goal

pub returns-in-Some : goal.returns-in-Some
returns-in-Some c = on_ok_weaker c.put_begun.result (λ ends d v t are timed.
    let (like, is, fits) = c.in-Some.ensures in
    let numbers = map (λ (cell : Option Cell). unwrap_or cell []) (place_cells d v t ++ effort_cells d v t) in
    record {
      text = row_begun c.args.text.now.items c.put_begun.new.text.items c.args.file c.in-Some.front.now.0 c.in-Some.time t.time numbers
          (ap (λ (p : ℕ × ℕ). p.0) like) fits (sym is ∙ timed) (ends d v t are);
    }) c.put_begun.ensures

pub returns : goal.returns
returns c = on_ok_weaker c.put_numbers.result (λ ends d v t are timed.
    let text = c.args.text.now.items in
    let time = unwrap_or (option_map instant_text t.time) [] in
    let numbers = map (λ (cell : Option Cell). unwrap_or cell []) (place_cells d v t ++ effort_cells d v t) in
    record {
      text = row_in_parts text c.put_first.new.text.items c.put_numbers.new.text.items c.args.file time numbers
          (unquoted (decimal c.args.file) (high-decimal c.args.file))
          (c.in_ok-put_first.ensures
          ∙ ap (λ at. text ++ (decimal c.args.file ++ fields_text default_writer (unwrap_or (option_map instant_text at) [] ∷ []))) timed)
          (ends d v t are);
    }) c.put_numbers.ensures
