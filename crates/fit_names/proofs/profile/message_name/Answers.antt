use Rattle.std.proofs.Common.{rules}
use Rattle.fit_names.proofs.profile.message_name.Goals as goal

pub returns-clause-table : goal.returns-clause-table
returns-clause-table c = search rules
