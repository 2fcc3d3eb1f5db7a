use Rattle.std.proofs.Common.{◌≡◌, ◌+◌, ◌*◌, ◌++◌, ◌<◌, ℕ, false, get_or, take}
use Rattle.fit_csv_text.specs.inner.Loose.{is_mark}
use Rattle.fit_csv_text.proofs.loose.lines.put_line.Given as goal

abbrev pub invariant-loop : goal.invariant-loop
invariant-loop l = record {
  place : l.shown ≡ 16 * l.counter;
  none : (k : ℕ) → k < l.shown → is_mark (get_or l.text k 0) ≡ false;
  put : take (l.at + l.shown) l.sheet ≡ take l.at l.initial.sheet ++ take l.shown l.text;
}
