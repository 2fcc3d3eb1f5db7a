use Rattle.std.proofs.Common.{◌≡◌, ◌++◌, ◌≤◌, drop, length}
use Rattle.std.specs.Prelude.{flat_map}
use Rattle.std.specs.Global.{Global}
use Rattle.fit_record.specs.ReadMessages.{fields_from}
use Rattle.fit_record.specs.Records.{sizes}
use Rattle.fit_messages.specs.Blocks.{slot}
use Rattle.fit_messages.specs.inner.Sheets.{with_sheet}
use Rattle.fit_messages.proofs.items.add_all_read.Given as goal

abbrev pub invariant-loop-place : goal.invariant-loop-place
invariant-loop-place l = record {
  told : with_sheet l.bytes.items l.sheet l.at ++ flat_map slot (fields_from {A = Global} l.order (drop l.place l.layout) l.rest)
      ≡ with_sheet l.initial.bytes.items l.initial.sheet l.start ++ flat_map slot (fields_from {A = Global} l.order l.layout l.body);
  enough : sizes (drop l.place l.layout) ≤ length l.rest;
  small : l.at ≤ 512;
  after : drop (sizes (drop l.place l.layout)) l.rest ≡ drop (sizes l.layout) l.body;
}
