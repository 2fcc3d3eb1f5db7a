use Rattle.fit_profile.proofs.Common.{◌≡◌, ℕ, None}
use Rattle.std.specs.Prelude.{◌≤◌, ◌-◌, length, slice_index_or, max, vec_capacity}
use Rattle.fit_profile.proofs.plan.fill.Given as goal

abbrev pub invariant-loop-places : goal.invariant-loop-places
invariant-loop-places l = record {
  same : (local : ℕ) → slice_index_or l.places.items local None ≡ slice_index_or l.fn.places.items local None;
  room : 16 ≤ vec_capacity l.places;
  memory : vec_capacity l.places ≤ max 16 (vec_capacity l.fn.places);
}

abbrev pub decreases-loop-places : goal.decreases-loop-places
decreases-loop-places l = 16 - length l.places.items
