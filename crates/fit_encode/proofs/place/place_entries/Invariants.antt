use Rattle.fit_encode.proofs.Common.{◌≡◌, ◌++◌, length, take, flat_map}
use Rattle.std.proofs.Common.{◌+◌}
use Rattle.fit_encode.proofs.place.place_entries.Given as goal

abbrev pub invariant-loop-f : goal.invariant-loop-f
invariant-loop-f g l = record {
  end : l.at ≡ l.initial.at + length (flat_map g.E.Entry.spelled (take l.f-index l.fields));
  text : take l.at l.bytes ≡ take l.initial.at l.initial.bytes ++ flat_map g.E.Entry.spelled (take l.f-index l.fields);
}
