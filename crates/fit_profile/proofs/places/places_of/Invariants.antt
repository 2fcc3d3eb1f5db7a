use Rattle.fit_profile.proofs.Common.{◌≡◌, ◌-◌, ◌<◌, ℕ, drop, get_or, length}
use Rattle.fit_profile.specs.inner.Places.{place_from}
use Rattle.fit_profile.proofs.places.places_of.Given as goal

abbrev pub invariant-loop-count : goal.invariant-loop-count
invariant-loop-count l = record {
  long : length l.places ≡ 256;
  right : (number : ℕ) → number < 256
      → get_or l.places number 0 ≡ place_from (length l.fields - l.count) (drop (length l.fields - l.count) l.fields) number;
}
