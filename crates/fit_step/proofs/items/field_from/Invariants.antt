use Rattle.fit_step.proofs.Common.{◌≡◌, next_with_bytes, drop}
use Rattle.fit_step.proofs.items.field_from.Given as goal

abbrev pub invariant-loop-place : goal.invariant-loop-place
invariant-loop-place l = next_with_bytes l.fn.from (drop l.fn.from l.layout) ≡ next_with_bytes l.place (drop l.place l.layout)
