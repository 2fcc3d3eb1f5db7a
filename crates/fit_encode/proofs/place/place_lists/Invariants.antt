use Rattle.fit_encode.proofs.Common.{◌≡◌, ◌++◌, length, take, flat_map, items_bytes}
use Rattle.std.proofs.Common.{◌+◌}
use Rattle.fit_encode.proofs.place.place_lists.Given as goal

abbrev pub invariant-loop-items : goal.invariant-loop-items
invariant-loop-items g l = record {
  end : l.at ≡ l.initial.at + length (flat_map (items_bytes l.order) (take l.items-index l.lists));
  text : take l.at l.bytes ≡ take l.initial.at l.initial.bytes ++ flat_map (items_bytes l.order) (take l.items-index l.lists);
}
