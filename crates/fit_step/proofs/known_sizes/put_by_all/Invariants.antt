use Rattle.fit_step.proofs.Common.{◌≡◌, ◌⊎◌, ℕ, ◌<◌, ◌≤◌, ◌+◌, ◌*◌, length, slice_index}
use Rattle.fit_step.proofs.known_sizes.put_by_all.Given as goal

abbrev pub invariant-loop-byte : goal.invariant-loop-byte
invariant-loop-byte l = record {
  long : length l.sizes ≡ 256;
  put : (k : ℕ)
      → (((k ≡ l.local) ⊎ ((l.local < 4) × (128 + 32 * l.local ≤ k) × (k < l.byte))) × (slice_index l.sizes k ≡ l.size))
      ⊎ ((slice_index l.sizes k ≡ slice_index l.fn.sizes k) × (k ≡ l.local → ⊥) × (128 + 32 * l.local ≤ k → k < l.byte → ⊥));
}
