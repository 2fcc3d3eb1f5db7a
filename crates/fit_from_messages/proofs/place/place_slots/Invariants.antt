use Rattle.std.proofs.Common.{◌≡◌, ◌+◌, ◌++◌, drop, take}
use Rattle.std.specs.Prelude.{flat_map, sum_by}
use Rattle.std.specs.List.{list_all}
use Rattle.fit_base.specs.Fields.{items_bytes}
use Rattle.fit_from_messages.specs.Parts.{items_read, slot_stands}
use Rattle.fit_from_messages.specs.Slots.{slot_size}
use Rattle.fit_from_messages.proofs.place.place_slots.Given as goal

-- with the other fields it is what all are
abbrev pub invariant-loop-slot : goal.invariant-loop-slot
invariant-loop-slot l = record {
  stand : list_all (slot_stands l.block) l.slots ≡ list_all (slot_stands l.block) (drop l.slot-index l.slots);
  end : l.end + sum_by slot_size (drop l.slot-index l.slots) ≡ l.at + sum_by slot_size l.slots;
  text : take l.end l.bytes ++ flat_map (λ s. items_bytes l.order (items_read l.block s)) (drop l.slot-index l.slots)
      ≡ take l.at l.initial.bytes ++ flat_map (λ s. items_bytes l.order (items_read l.block s)) l.slots;
}
