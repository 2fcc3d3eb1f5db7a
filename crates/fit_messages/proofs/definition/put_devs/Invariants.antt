use Rattle.std.proofs.Common.{◌≡◌, ◌+◌, ◌*◌, ◌≤◌, ◌++◌, take}
use Rattle.std.specs.Prelude.{sum_by}
use Rattle.fit_profile.specs.Described.{namings_at}
use Rattle.fit_messages.specs.Blocks.{entries, whole}
use Rattle.fit_messages.specs.inner.Columns.{dev_columns}
use Rattle.fit_messages.proofs.definition.put_devs.Given as goal

abbrev pub invariant-loop-place : goal.invariant-loop-place
invariant-loop-place l = record {
  told : l.bytes.items ≡ l.initial.bytes.items ++ entries l.at (take l.place (dev_columns l.fields l.dev_codes (namings_at l.stream l.local)));
  far : l.end ≡ l.at + sum_by (λ f. whole f.size) (take l.place l.fields);
  small : l.end ≤ 72 + 256 * 256 + 256 * l.place;
}
