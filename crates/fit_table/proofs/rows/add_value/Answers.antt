use Rattle.fit_table.proofs.Common.{take, value_text}
use Rattle.fit_table.specs.inner.TableColumns.{shown_number}
use Rattle.fit_table.proofs.TableNumbers.{added, high_value}
use Rattle.fit_table.proofs.rows.add_value.Goals as goal

pub returns-clause-cell : goal.returns-clause-cell
returns-clause-cell c d v t are =
    added (value_text d v (shown_number c.args.field)) (take c.args.at c.args.row.now) (take c.write_byte-at.result c.write_byte-at.new.bytes)
    (take c.write_value.result.1 c.write_value.new.row) (high_value d v (shown_number c.args.field)) c.write_byte-at.ensures.text
    (c.write_value.ensures.cell d v t are).1
