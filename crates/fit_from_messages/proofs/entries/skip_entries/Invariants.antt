use Rattle.std.proofs.Common.{◌≡◌, ◌-◌}
use Rattle.std.specs.List.{list_all}
use Rattle.fit_from_messages.specs.Parts.{entry_stands, entries_of}
use Rattle.fit_from_messages.specs.inner.Cutting.{left_of}
use Rattle.fit_from_messages.proofs.entries.skip_entries.Given as goal

-- what comes after the entries that stand is the same as after all
abbrev pub invariant-loop : goal.invariant-loop
invariant-loop l = record {
  stand : list_all (entry_stands l.developer) (entries_of l.count l.bytes)
      ≡ list_all (entry_stands l.developer) (entries_of (l.count - l.counter) l.rest);
  rest : left_of l.count l.bytes ≡ left_of (l.count - l.counter) l.rest;
}
