use Rattle.std.proofs.Common.{◌≡◌, ◌-◌, ◌++◌, true}
use Rattle.std.specs.Prelude.{map}
use Rattle.std.specs.List.{list_all}
use Rattle.fit_from_messages.specs.Parts.{dev_in, entries_of, entry_stands, slot_in}
use Rattle.fit_from_messages.specs.inner.Cutting.{is_small}
use Rattle.fit_from_messages.proofs.fields.read_devs.Given as goal

-- with what the other entries say it is what all say
abbrev pub invariant-loop : goal.invariant-loop
invariant-loop l = record {
  stand : list_all (entry_stands 1) (entries_of (l.count - l.counter) l.rest) ≡ true;
  fields : map dev_in (entries_of l.count l.bytes) ≡ l.fields ++ map dev_in (entries_of (l.count - l.counter) l.rest);
  slots : l.initial.slots ++ map slot_in (entries_of l.count l.bytes) ≡ l.slots ++ map slot_in (entries_of (l.count - l.counter) l.rest);
  fit : list_all is_small (entries_of l.count l.bytes) ≡ list_all is_small (entries_of (l.count - l.counter) l.rest);
}
