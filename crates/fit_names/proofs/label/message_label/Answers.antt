use Rattle.std.proofs.Common.{rules}
use Rattle.fit_names.proofs.label.message_label.Goals as goal

pub returns-in-None : goal.returns-in-None
returns-in-None c = search rules
