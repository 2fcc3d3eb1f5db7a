use Rattle.std.proofs.Common.{rules}
use Rattle.fit_csv_text.proofs.loose.put.Goals as goal

pub returns-in-Ok-clause-few : goal.returns-in-Ok-clause-few
returns-in-Ok-clause-few c = search rules
