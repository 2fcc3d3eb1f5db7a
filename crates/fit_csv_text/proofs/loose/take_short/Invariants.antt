use Rattle.std.proofs.Common.{◌≤◌, ◌-◌, ◌++◌, take}
use Rattle.fit_csv_text.specs.Spellings.{HasPlainLines}
use Rattle.fit_csv_text.specs.inner.Loose.{WritesOn}
use Rattle.fit_csv_text.proofs.loose.take_short.Given as goal

abbrev pub invariant-loop-at : goal.invariant-loop-at
invariant-loop-at l = record {
  place : l.at ≤ 2048;
  goes : WritesOn l.text l.left l.written.items (l.written.items ++ take l.at l.sheet);
  lines : HasPlainLines l.text → HasPlainLines l.left;
}

abbrev pub decreases-loop-at : goal.decreases-loop-at
decreases-loop-at l = 2048 - l.at
