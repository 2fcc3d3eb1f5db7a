use Rattle.std.proofs.Common.{◌≡◌, ◌<◌, ℕ, get_or}
use Rattle.fit_csv_text.proofs.window.ends_in_return.Given as goal

abbrev pub invariant-loop-place : goal.invariant-loop-place
invariant-loop-place l = record {
  no_feed : (k : ℕ) → k < l.place → get_or l.text k 0 ≡ 10 → ⊥;
  no_return : (k : ℕ) → k < l.place → get_or l.text k 0 ≡ 13 → ⊥;
}
