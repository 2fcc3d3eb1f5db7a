use Rattle.fit_step.proofs.Common.{rules}
use Rattle.fit_step.specs.Machine.{definition_move}
use Rattle.fit_step.proofs.definition.at_field_count.Goals as goal

pub returns-then-byte-gt0-clause-made : goal.returns-then-byte-gt0-clause-made
unfolding definition_move
returns-then-byte-gt0-clause-made g c = search rules
