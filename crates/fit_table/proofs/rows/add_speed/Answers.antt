use Rattle.fit_table.proofs.Common.{amount_text, take, value_text}
use Rattle.std.specs.Prelude.{option_map, pos}
use Rattle.fit_record.specs.Faults.{or_else}
use Rattle.fit_table.proofs.TableNumbers.{added, first_put, high_else, high_told, high_value, other_put}
use Rattle.fit_table.proofs.rows.add_speed.Goals as goal

pub returns-then-is_enhanced-clause-cell : goal.returns-then-is_enhanced-clause-cell
returns-then-is_enhanced-clause-cell c d v t are =
    let a = value_text d v 73 in
    let b = value_text d v 6 in
    let e = option_map (λ n. amount_text (pos n) 100 0) t.speed in
    let beyond = take c.write_byte-at.result c.write_byte-at.new.bytes in
    let new = take c.write_value-is_enhanced.result.1 c.write_value-is_enhanced.new.row in
    added (or_else a (or_else b e)) (take c.args.at c.args.row.now) beyond new
    (high_else a (or_else b e) (high_value d v 73) (high_else b e (high_value d v 6) (high_told 100 t.speed))) c.write_byte-at.ensures.text
    (first_put a (or_else b e) c.write_value-is_enhanced.result.0 beyond new (c.write_value-is_enhanced.ensures.cell d v t are) c.if-is_enhanced.true)

pub returns-then-is_own-clause-cell : goal.returns-then-is_own-clause-cell
returns-then-is_own-clause-cell c d v t are =
    let a = value_text d v 73 in
    let b = value_text d v 6 in
    let e = option_map (λ n. amount_text (pos n) 100 0) t.speed in
    let beyond = take c.write_byte-at.result c.write_byte-at.new.bytes in
    let between = take c.write_value-is_enhanced.result.1 c.write_value-is_enhanced.new.row in
    let new = take c.write_value-is_own.result.1 c.write_value-is_own.new.row in
    added (or_else a (or_else b e)) (take c.args.at c.args.row.now) beyond new
    (high_else a (or_else b e) (high_value d v 73) (high_else b e (high_value d v 6) (high_told 100 t.speed))) c.write_byte-at.ensures.text
    (other_put a (or_else b e) c.write_value-is_enhanced.result.0 beyond between new (c.write_value-is_enhanced.ensures.cell d v t are)
    c.if-is_enhanced.false
    (first_put b e c.write_value-is_own.result.0 between new (c.write_value-is_own.ensures.cell d v t are) c.if-is_own.true))

pub returns-clause-cell : goal.returns-clause-cell
returns-clause-cell c d v t are =
    let a = value_text d v 73 in
    let b = value_text d v 6 in
    let e = option_map (λ n. amount_text (pos n) 100 0) t.speed in
    let beyond = take c.write_byte-at.result c.write_byte-at.new.bytes in
    let between = take c.write_value-is_enhanced.result.1 c.write_value-is_enhanced.new.row in
    let own = take c.write_value-is_own.result.1 c.write_value-is_own.new.row in
    let new = take c.write_speed.result.1 c.write_speed.new.row in
    added (or_else a (or_else b e)) (take c.args.at c.args.row.now) beyond new
    (high_else a (or_else b e) (high_value d v 73) (high_else b e (high_value d v 6) (high_told 100 t.speed))) c.write_byte-at.ensures.text
    (other_put a (or_else b e) c.write_value-is_enhanced.result.0 beyond between new (c.write_value-is_enhanced.ensures.cell d v t are)
    c.if-is_enhanced.false
    (other_put b e c.write_value-is_own.result.0 between own new (c.write_value-is_own.ensures.cell d v t are) c.if-is_own.false
    (c.write_speed.ensures.cell d v t are).1))
