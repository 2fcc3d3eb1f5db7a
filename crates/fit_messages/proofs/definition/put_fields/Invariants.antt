use Rattle.std.proofs.Common.{◌≡◌, ◌+◌, ◌*◌, ◌≤◌, ◌++◌, map, take}
use Rattle.std.specs.Prelude.{sum_by}
use Rattle.fit_messages.specs.Blocks.{column, entries, whole}
use Rattle.fit_messages.proofs.definition.put_fields.Given as goal

abbrev pub invariant-loop-field : goal.invariant-loop-field
invariant-loop-field l = record {
  told : l.bytes.items ≡ l.initial.bytes.items ++ entries l.at (map (column l.global) (take l.field-index l.fields));
  far : l.end ≡ l.at + sum_by (λ f. whole f.size) (take l.field-index l.fields);
  small : l.end ≤ 72 + 256 * l.field-index;
}
