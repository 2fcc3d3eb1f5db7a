use Rattle.std.proofs.Common.{◌≡◌, drop}
use Rattle.std.specs.List.{list_all}
use Rattle.fit_from_messages.specs.Parts.{slot_stands}
use Rattle.fit_from_messages.proofs.alone.slots_stand.Given as goal

-- with the others it is what all do
abbrev pub invariant-loop-slot : goal.invariant-loop-slot
invariant-loop-slot l = list_all (slot_stands l.block) l.slots ≡ list_all (slot_stands l.block) (drop l.slot-index l.slots)
