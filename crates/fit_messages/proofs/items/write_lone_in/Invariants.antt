use Rattle.std.proofs.Common.{◌≡◌, ◌+◌, ◌*◌, ◌++◌, ◌≤◌, drop, length, take}
use Rattle.std.specs.Prelude.{flat_map}
use Rattle.std.specs.Global.{Global}
use Rattle.fit_record.specs.ReadMessages.{fields_from}
use Rattle.fit_record.specs.Records.{sizes}
use Rattle.fit_messages.specs.Blocks.{slot}
use Rattle.fit_messages.proofs.items.write_lone_in.Given as goal

abbrev pub invariant-loop-place : goal.invariant-loop-place
invariant-loop-place l = record {
  told : take l.at l.sheet ++ flat_map slot (fields_from {A = Global} l.order (drop l.place l.layout) l.rest)
      ≡ take l.start l.initial.sheet ++ flat_map slot (fields_from {A = Global} l.order l.layout l.body);
  enough : sizes (drop l.place l.layout) + 8 ≤ length l.rest;
  far : l.at ≡ l.start + 8 * l.place;
  after : drop (sizes (drop l.place l.layout)) l.rest ≡ drop (sizes l.layout) l.body;
}
