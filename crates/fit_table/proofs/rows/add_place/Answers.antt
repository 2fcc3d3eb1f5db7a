use Rattle.fit_table.proofs.Common.{◌∷◌, [], amount_text, degrees_text, take, value_text}
use Rattle.std.specs.Prelude.{option_map, pos, unwrap_or}
use Rattle.fit_record.specs.Faults.{or_else}
use Rattle.fit_texts.proofs.AddedCells.{more_cells}
use Rattle.fit_table.proofs.rows.add_place.Goals as goal

pub returns-clause-cells : goal.returns-clause-cells
returns-clause-cells c d v t are =
    let text = take c.args.at c.args.row.now in
    let t1 = take c.add_position-at.result c.add_position-at.new.row in
    let t2 = take c.add_position-at-2.result c.add_position-at-2.new.row in
    let t3 = take c.add_altitude-at.result c.add_altitude-at.new.row in
    let c1 = unwrap_or (degrees_text d v 0) [] in
    let c2 = unwrap_or (degrees_text d v 1) [] in
    let c3 = unwrap_or (or_else (value_text d v 78) (value_text d v 2)) [] in
    let c4 = unwrap_or (or_else (value_text d v 5) (option_map (λ n. amount_text (pos n) 16 0) t.distance)) [] in
    let n2 = more_cells text t1 t2 (c1 ∷ []) (c2 ∷ []) (c.add_position-at.ensures.cell d v t are) (c.add_position-at-2.ensures.cell d v t are) in
    let n3 = more_cells text t2 t3 (c1 ∷ c2 ∷ []) (c3 ∷ []) n2 (c.add_altitude-at.ensures.cell d v t are) in
    more_cells text t3 (take c.add_distance.result c.add_distance.new.row) (c1 ∷ c2 ∷ c3 ∷ []) (c4 ∷ []) n3 (c.add_distance.ensures.cell d v t are)
