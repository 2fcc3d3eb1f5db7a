use Rattle.std.proofs.Common.{rules}
use Rattle.fit_table.proofs.rows.put_written.Goals as goal

pub returns : goal.returns
returns c = search rules
