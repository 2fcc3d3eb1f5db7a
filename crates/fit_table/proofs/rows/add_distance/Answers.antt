use Rattle.fit_table.proofs.Common.{amount_text, take, value_text}
use Rattle.std.specs.Prelude.{option_map, pos}
use Rattle.fit_record.specs.Faults.{or_else}
use Rattle.fit_table.proofs.TableNumbers.{added, first_put, high_else, high_told, high_value, other_put}
use Rattle.fit_table.proofs.rows.add_distance.Goals as goal

pub returns-then-is_own-clause-cell : goal.returns-then-is_own-clause-cell
returns-then-is_own-clause-cell c d v t are =
    let a = value_text d v 5 in
    let b = option_map (λ n. amount_text (pos n) 16 0) t.distance in
    let beyond = take c.write_byte-at.result c.write_byte-at.new.bytes in
    let new = take c.write_value-is_own.result.1 c.write_value-is_own.new.row in
    added (or_else a b) (take c.args.at c.args.row.now) beyond new (high_else a b (high_value d v 5) (high_told 16 t.distance)) c.write_byte-at.ensures.text
    (first_put a b c.write_value-is_own.result.0 beyond new (c.write_value-is_own.ensures.cell d v t are) c.if-is_own.true)

pub returns-clause-cell : goal.returns-clause-cell
returns-clause-cell c d v t are =
    let a = value_text d v 5 in
    let b = option_map (λ n. amount_text (pos n) 16 0) t.distance in
    let beyond = take c.write_byte-at.result c.write_byte-at.new.bytes in
    let between = take c.write_value-is_own.result.1 c.write_value-is_own.new.row in
    let new = take c.write_distance.result.1 c.write_distance.new.row in
    added (or_else a b) (take c.args.at c.args.row.now) beyond new (high_else a b (high_value d v 5) (high_told 16 t.distance)) c.write_byte-at.ensures.text
    (other_put a b c.write_value-is_own.result.0 beyond between new (c.write_value-is_own.ensures.cell d v t are) c.if-is_own.false
    (c.write_distance.ensures.cell d v t are).1)
