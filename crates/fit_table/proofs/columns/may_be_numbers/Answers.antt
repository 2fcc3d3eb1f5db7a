use Rattle.std.proofs.Common.{rules}
use Rattle.fit_table.proofs.columns.may_be_numbers.Goals as goal

pub returns-in-Signed : goal.returns-in-Signed
returns-in-Signed c = search rules
