use Rattle.fit_step.proofs.Common.{◌≡◌, take, no_items, map}
use Rattle.fit_step.proofs.header.empty_fields.Given as goal

abbrev pub invariant-loop-place : goal.invariant-loop-place
invariant-loop-place g l = l.items ≡ map no_items (take l.place l.layout)
