use Rattle.std.proofs.Common.{◌≡◌, ℕ, ◌<◌, ◌*◌, get_or, false}
use Rattle.fit_csv_text.specs.inner.Loose.{is_mark}
use Rattle.fit_csv_text.proofs.loose.runs.run_length.Given as goal

abbrev pub invariant-loop : goal.invariant-loop
invariant-loop l = record {
  place : l.at ≡ 16 * l.counter;
  none : (k : ℕ) → k < l.at → is_mark (get_or l.text k 0) ≡ false;
}

abbrev pub invariant-loop-i : goal.invariant-loop-i
invariant-loop-i l = (k : ℕ) → k < l.i → is_mark (get_or l.text k 0) ≡ false
