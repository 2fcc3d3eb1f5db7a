use Rattle.fit_encode.proofs.Common.{◌≡◌, ◌++◌, length, take, flat_map, number_bytes}
use Rattle.std.proofs.Common.{◌+◌}
use Rattle.fit_encode.proofs.place.place_numbers.Given as goal

abbrev pub invariant-loop-bits : goal.invariant-loop-bits
invariant-loop-bits l = record {
  end : l.at ≡ l.initial.at + length (flat_map (number_bytes l.order l.width) (take l.bits-index l.numbers));
  text : take l.at l.bytes ≡ take l.initial.at l.initial.bytes ++ flat_map (number_bytes l.order l.width) (take l.bits-index l.numbers);
}
