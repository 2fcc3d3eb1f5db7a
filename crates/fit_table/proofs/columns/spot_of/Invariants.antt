use Rattle.fit_table.proofs.Common.{◌≡◌, ◌≤◌, ◌+◌, ◌*◌, drop, Order, shapes}
use Rattle.std.proofs.Common.{List, ℕ}
use Rattle.fit_record.specs.Records.{sizes}
use Rattle.fit_table.proofs.TableColumnFacts.{first_in}
use Rattle.fit_table.proofs.columns.spot_of.Given as goal

abbrev pub invariant-loop-field : goal.invariant-loop-field
invariant-loop-field l = record {
  first : (o : Order) (bytes : List ℕ) → first_in o l.fields bytes l.number ≡ first_in o (drop l.field-index l.fields) (drop l.offset bytes) l.number;
  left : l.offset + sizes (shapes (drop l.field-index l.fields)) ≡ sizes (shapes l.fields);
  small : l.offset ≤ 255 * l.field-index;
}
