use Rattle.fit_cells.proofs.Common.{◌≡◌, ◌<◌, ℕ, All, length, get_or}
use Rattle.fit_cells.proofs.strings.read_text.Given as goal

abbrev pub invariant-loop-place : goal.invariant-loop-place
invariant-loop-place l = record {
  count : length l.bits ≡ l.place;
  value : (k : ℕ) → k < l.place → get_or l.bits k 0 ≡ get_or l.text k 0;
  below : All (λ b. b < 256) l.bits;
}
