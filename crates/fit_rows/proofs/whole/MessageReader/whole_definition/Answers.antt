use Rattle.std.proofs.Common.{rules}
use Rattle.fit_rows.proofs.whole.MessageReader.whole_definition.Goals as goal

pub returns-clause-text : goal.returns-clause-text
returns-clause-text c = search rules
