use Rattle.fit_profile.proofs.Common.{◌≡◌, ℕ, []}
use Rattle.std.specs.Prelude.{◌+◌, ◌-◌, length, slice_index_or}
use Rattle.fit_profile.proofs.names.grow.Given as goal

abbrev pub invariant-loop-alloc : goal.invariant-loop-alloc
invariant-loop-alloc g l = (local : ℕ) → slice_index_or l.places.items local [] ≡ slice_index_or l.fn.places.items local []

abbrev pub decreases-loop-alloc : goal.decreases-loop-alloc
decreases-loop-alloc g l = l.fn.local + 1 - length l.places.items
