use Rattle.std.proofs.Common.{rules}
use Rattle.fit_names.proofs.profile.field_info.Goals as goal

pub returns-clause-table : goal.returns-clause-table
returns-clause-table c = search rules
