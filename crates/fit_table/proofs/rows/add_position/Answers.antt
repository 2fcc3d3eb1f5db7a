use Rattle.fit_table.proofs.Common.{degrees_text, take}
use Rattle.fit_table.proofs.TableNumbers.{added, high_degrees}
use Rattle.fit_table.proofs.rows.add_position.Goals as goal

pub returns-clause-cell : goal.returns-clause-cell
returns-clause-cell c d v t are =
    added (degrees_text d v c.args.number) (take c.args.at c.args.row.now) (take c.write_byte-at.result c.write_byte-at.new.bytes)
    (take c.write_position.result.1 c.write_position.new.row) (high_degrees d v c.args.number) c.write_byte-at.ensures.text
    (c.write_position.ensures.cell d v t are).1
