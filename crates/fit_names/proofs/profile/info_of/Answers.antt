use Rattle.std.proofs.Common.{rules}
use Rattle.fit_names.proofs.profile.info_of.Goals as goal

pub returns-in_ok-message_name-in-254-clause-table : goal.returns-in_ok-message_name-in-254-clause-table
returns-in_ok-message_name-in-254-clause-table c = search rules
