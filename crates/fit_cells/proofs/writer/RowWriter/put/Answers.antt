use Rattle.std.proofs.Common.{rules}
use Rattle.fit_cells.proofs.writer.RowWriter.put.Goals as goal

pub returns-clause-ok : goal.returns-clause-ok
returns-clause-ok c = search rules
