use Rattle.std.proofs.Common.{◌≡◌, ◌-◌, ◌*◌, ◌++◌, length}
use Rattle.std.specs.Prelude.{flat_map}
use Rattle.fit_record.specs.ReadMessages.{numbers_of}
use Rattle.fit_messages.specs.Blocks.{low}
use Rattle.fit_messages.proofs.items.put_turned.Given as goal

abbrev pub invariant-loop : goal.invariant-loop
invariant-loop l = record {
  told : l.bytes.items ++ flat_map (low l.width) (numbers_of l.order l.width (l.count - l.counter) l.rest)
      ≡ l.initial.bytes.items ++ flat_map (low l.width) (numbers_of l.order l.width l.count l.field);
  long : length l.rest ≡ (l.count - l.counter) * l.width;
}
