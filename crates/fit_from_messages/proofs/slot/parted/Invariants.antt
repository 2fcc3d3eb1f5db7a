use Rattle.std.proofs.Common.{◌≡◌, ◌++◌, drop}
use Rattle.std.specs.Prelude.{filter, max}
use Rattle.fit_from_messages.specs.inner.Slots.{has_items, reach_of}
use Rattle.fit_from_messages.proofs.slot.parted.Given as goal

-- with the other slots it is what all are
abbrev pub invariant-loop-slot : goal.invariant-loop-slot
invariant-loop-slot l = record {
  full : l.full ++ filter has_items (drop l.slot-index l.all) ≡ filter has_items l.all;
  reach : max l.reach (reach_of (drop l.slot-index l.all)) ≡ reach_of l.all;
}
