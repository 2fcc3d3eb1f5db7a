use Rattle.std.proofs.Common.{rules}
use Rattle.fit_table.proofs.numbers.in_bytes.NumbersInBytes.write_speed.Goals as goal

pub returns-in-Some-clause-cell : goal.returns-in-Some-clause-cell
returns-in-Some-clause-cell c = search rules
