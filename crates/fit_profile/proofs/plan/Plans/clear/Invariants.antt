use Rattle.fit_profile.proofs.Common.{◌≡◌, ◌<◌, ℕ, None, length}
use Rattle.std.specs.Prelude.{slice_index_or}
use Rattle.fit_profile.proofs.plan.Plans.clear.Given as goal

abbrev pub invariant-loop-local : goal.invariant-loop-local
invariant-loop-local l = record {
  long : length l.self.places.items ≡ length l.initial.self.places.items;
  before : (k : ℕ) → k < l.local → slice_index_or l.self.places.items k None ≡ None;
}
