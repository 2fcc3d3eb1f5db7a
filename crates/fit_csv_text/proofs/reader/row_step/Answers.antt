use Rattle.std.proofs.Common.{rules}
use Rattle.fit_csv_text.proofs.reader.row_step.Goals as goal

pub returns-in_default-clause-deed : goal.returns-in_default-clause-deed
returns-in_default-clause-deed c = search rules
