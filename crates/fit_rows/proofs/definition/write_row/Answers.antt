use Rattle.fit_rows.proofs.Common.{◌∙◌, ◌++◌, ◌∷◌, [], ap, default_writer, fields_text, take}
use Rattle.std.proofs.Common.{ℕ, List, decimal}
use Rattle.fit_texts.proofs.AddedCells.{four_cells, more_cells}
use Rattle.fit_rows.proofs.definition.write_row.Goals as goal

pub returns-clause-text : goal.returns-clause-text
returns-clause-text c =
    let kind = c.args.kind.now in
    let number = decimal c.args.number in
    let size = decimal c.args.size in
    let last = decimal c.args.last in
    let numbered = take c.write_cell-numbered.result c.write_cell-numbered.new.row in
    let sized = take c.write_cell-sized.result c.write_cell-sized.new.row in
    let all = take c.write_cell-at.result c.write_cell-at.new.row in
    let one = c.write_cell-numbered.ensures.text
    ∙ ap (λ (t : List ℕ). t ++ fields_text default_writer (number ∷ [])) c.write_text-begun.ensures.text in
    let two = more_cells kind numbered sized (number ∷ []) (size ∷ []) one c.write_cell-sized.ensures.text in
    let three = more_cells kind sized all (number ∷ size ∷ []) (last ∷ []) two c.write_cell-at.ensures.text in
    four_cells [] all _ kind number size last c.requires.plain three c.write_text.ensures.text
