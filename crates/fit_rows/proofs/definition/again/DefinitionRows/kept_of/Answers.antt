use Rattle.std.proofs.Common.{rules}
use Rattle.fit_rows.proofs.definition.again.DefinitionRows.kept_of.Goals as goal

pub returns-then-are_of : goal.returns-then-are_of
returns-then-are_of c = search rules
