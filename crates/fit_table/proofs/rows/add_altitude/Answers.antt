use Rattle.fit_table.proofs.Common.{take, value_text}
use Rattle.fit_record.specs.Faults.{or_else}
use Rattle.fit_table.proofs.TableNumbers.{added, first_put, high_else, high_value, other_put}
use Rattle.fit_table.proofs.rows.add_altitude.Goals as goal

pub returns-then-is_enhanced-clause-cell : goal.returns-then-is_enhanced-clause-cell
returns-then-is_enhanced-clause-cell c d v t are =
    let a = value_text d v 78 in
    let b = value_text d v 2 in
    let beyond = take c.write_byte-at.result c.write_byte-at.new.bytes in
    let new = take c.write_value-is_enhanced.result.1 c.write_value-is_enhanced.new.row in
    added (or_else a b) (take c.args.at c.args.row.now) beyond new (high_else a b (high_value d v 78) (high_value d v 2)) c.write_byte-at.ensures.text
    (first_put a b c.write_value-is_enhanced.result.0 beyond new (c.write_value-is_enhanced.ensures.cell d v t are) c.if-is_enhanced.true)

pub returns-clause-cell : goal.returns-clause-cell
returns-clause-cell c d v t are =
    let a = value_text d v 78 in
    let b = value_text d v 2 in
    let beyond = take c.write_byte-at.result c.write_byte-at.new.bytes in
    let between = take c.write_value-is_enhanced.result.1 c.write_value-is_enhanced.new.row in
    let new = take c.write_value.result.1 c.write_value.new.row in
    added (or_else a b) (take c.args.at c.args.row.now) beyond new (high_else a b (high_value d v 78) (high_value d v 2)) c.write_byte-at.ensures.text
    (other_put a b c.write_value-is_enhanced.result.0 beyond between new (c.write_value-is_enhanced.ensures.cell d v t are) c.if-is_enhanced.false
    (c.write_value.ensures.cell d v t are).1)
