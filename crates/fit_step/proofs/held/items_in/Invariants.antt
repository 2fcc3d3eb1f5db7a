use Rattle.fit_step.proofs.Common.{◌≡◌, take, items_in}
use Rattle.fit_step.proofs.held.items_in.Given as goal

abbrev pub invariant-loop-field : goal.invariant-loop-field
invariant-loop-field g l = l.count ≡ items_in (take l.field-index l.fields)
