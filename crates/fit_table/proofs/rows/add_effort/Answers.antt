use Rattle.fit_table.proofs.Common.{◌∷◌, [], amount_text, take, value_text}
use Rattle.std.specs.Prelude.{option_map, pos, unwrap_or}
use Rattle.fit_record.specs.Faults.{or_else}
use Rattle.fit_texts.proofs.AddedCells.{more_cells}
use Rattle.fit_table.proofs.rows.add_effort.Goals as goal

pub returns-clause-cells : goal.returns-clause-cells
returns-clause-cells c d v t are =
    let text = take c.args.at c.args.row.now in
    let t1 = take c.add_speed-at.result c.add_speed-at.new.row in
    let t2 = take c.add_value-at.result c.add_value-at.new.row in
    let t3 = take c.add_value-at-2.result c.add_value-at-2.new.row in
    let t4 = take c.add_value-at-3.result c.add_value-at-3.new.row in
    let c1 = unwrap_or (or_else (value_text d v 73) (or_else (value_text d v 6) (option_map (λ n. amount_text (pos n) 100 0) t.speed))) [] in
    let c2 = unwrap_or (value_text d v 3) [] in
    let c3 = unwrap_or (value_text d v 4) [] in
    let c4 = unwrap_or (value_text d v 7) [] in
    let c5 = unwrap_or (value_text d v 13) [] in
    let n2 = more_cells text t1 t2 (c1 ∷ []) (c2 ∷ []) (c.add_speed-at.ensures.cell d v t are) (c.add_value-at.ensures.cell d v t are) in
    let n3 = more_cells text t2 t3 (c1 ∷ c2 ∷ []) (c3 ∷ []) n2 (c.add_value-at-2.ensures.cell d v t are) in
    let n4 = more_cells text t3 t4 (c1 ∷ c2 ∷ c3 ∷ []) (c4 ∷ []) n3 (c.add_value-at-3.ensures.cell d v t are) in
    more_cells text t4 (take c.add_value.result c.add_value.new.row) (c1 ∷ c2 ∷ c3 ∷ c4 ∷ []) (c5 ∷ []) n4 (c.add_value.ensures.cell d v t are)
