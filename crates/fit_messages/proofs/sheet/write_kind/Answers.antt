use Rattle.std.proofs.Common.{rules}
use Rattle.fit_messages.proofs.sheet.write_kind.Goals as goal

pub returns-clause-text : goal.returns-clause-text
returns-clause-text c = search rules
