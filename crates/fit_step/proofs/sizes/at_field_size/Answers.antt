use Rattle.fit_step.proofs.Common.{rules}
use Rattle.fit_step.specs.Machine.{definition_move}
use Rattle.fit_step.proofs.sizes.at_field_size.Goals as goal

pub returns-then-not-entries_complete-clause-made :
    goal.returns-then-not-entries_complete-clause-made
unfolding definition_move
returns-then-not-entries_complete-clause-made g c = search rules

pub returns-clause-made : goal.returns-clause-made
unfolding definition_move
returns-clause-made g c = search rules
