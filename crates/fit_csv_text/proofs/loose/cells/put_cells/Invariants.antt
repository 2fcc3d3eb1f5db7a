use Rattle.std.proofs.Common.{◌≡◌, ◌≤◌, ◌-◌, ◌++◌, take}
use Rattle.fit_csv_text.specs.Spellings.{HasPlainLines}
use Rattle.fit_csv_text.specs.inner.Loose.{WritesOn, spot_from}
use Rattle.fit_csv_text.specs.declared.loose.Spot.TheVariants.{RowStart}
use Rattle.fit_csv_text.proofs.loose.cells.put_cells.Given as goal

abbrev pub invariant-loop-place : goal.invariant-loop-place
invariant-loop-place l = record {
  place : (l.at ≤ l.place) × (l.place ≤ 2048);
  spot : l.spot ≡ spot_from RowStart (l.written ++ take l.place l.sheet);
  goes : WritesOn l.text l.left (l.written ++ take l.at l.initial.sheet) (l.written ++ take l.place l.sheet);
  lines : HasPlainLines l.text → HasPlainLines l.left;
}

abbrev pub decreases-loop-place : goal.decreases-loop-place
decreases-loop-place l = 2048 - l.place
