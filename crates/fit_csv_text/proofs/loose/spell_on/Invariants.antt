use Rattle.std.proofs.Common.{◌+◌, ◌<◌, ◌≤◌, length}
use Rattle.fit_csv_text.specs.Spellings.{HasPlainLines}
use Rattle.fit_csv_text.specs.inner.Loose.{WritesOn}
use Rattle.fit_csv_text.proofs.loose.spell_on.Given as goal

abbrev pub invariant-loop : goal.invariant-loop
invariant-loop l = record {
  goes : WritesOn l.text l.left l.initial.written.items l.written.items;
  more : 0 < length l.left → l.counter + length l.initial.written.items ≤ length l.written.items;
  few : length l.initial.written.items ≤ 65536 → length l.written.items ≤ 65536;
  lines : HasPlainLines l.text → HasPlainLines l.left;
}
