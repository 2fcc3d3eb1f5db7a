use Rattle.fit_record.proofs.Common.{◌≡◌, drop, first_items}
use Rattle.fit_record.proofs.learn.first_items.Given as goal

abbrev pub invariant-loop-place : goal.invariant-loop-place
invariant-loop-place g l = first_items l.fields l.items l.number ≡ first_items (drop l.place l.fields) (drop l.place l.items) l.number
