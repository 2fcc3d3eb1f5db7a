use Rattle.fit_step.proofs.Common.{◌≡◌, ◌+◌, ◌-◌, ◌≤◌, drop, items_so_far, sizes}
use Rattle.fit_step.proofs.held.items_so_far.Given as goal

abbrev pub invariant-loop-place : goal.invariant-loop-place
invariant-loop-place l = record {
  told : l.items + items_so_far (drop l.place l.layout) l.left ≡ items_so_far l.layout l.count;
  after : l.left - sizes (drop l.place l.layout) ≡ l.count - sizes l.layout;
  few : l.items + l.left ≤ l.count;
}
