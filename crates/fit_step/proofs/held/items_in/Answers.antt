use Rattle.fit_step.proofs.Common.{arith}
use Rattle.std.proofs.lemmas.Grind.{common_steps}
use Rattle.fit_step.proofs.held.items_in.Goals as goal

pub offset_bounds-fields-field-index : goal.offset_bounds-fields-field-index
offset_bounds-fields-field-index g c = grind (arith, common_steps)

pub bounds-fields-field-index : goal.bounds-fields-field-index
bounds-fields-field-index g c = grind (arith, common_steps)

pub overflow_add-count : goal.overflow_add-count
overflow_add-count g c = grind (arith, common_steps)

pub loop-field-preserved : goal.loop-field-preserved
loop-field-preserved g c = grind (arith, common_steps)

pub returns : goal.returns
returns g c = grind (arith, common_steps)
