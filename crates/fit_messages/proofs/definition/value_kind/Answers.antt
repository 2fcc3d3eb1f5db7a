use Rattle.std.proofs.Common.{rules}
use Rattle.fit_messages.proofs.definition.value_kind.Goals as goal

pub returns : goal.returns
returns c = search rules
