use Rattle.fit_cells.proofs.Common.{◌≡◌, ◌<◌, ◌++◌, ◌-◌, All, drop, read_pairs}
use Rattle.fit_cells.proofs.hexadecimal.read_bytes.Given as goal

abbrev pub invariant-loop-place : goal.invariant-loop-place
invariant-loop-place l = record {
  value : l.bits ++ read_pairs (l.count - l.place) l.rest ≡ read_pairs l.count (drop 2 l.fn.text);
  below : All (λ b. b < 256) l.bits;
}
