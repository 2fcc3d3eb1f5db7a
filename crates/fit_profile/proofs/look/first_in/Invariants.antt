use Rattle.fit_profile.proofs.Common.{◌≡◌, ◌≤◌, drop, length}
use Rattle.std.specs.Global.{Global}
use Rattle.fit_base.specs.declared.number.Order.{Order}
use Rattle.fit_record.specs.Records.{sizes}
use Rattle.fit_profile.specs.inner.InBytes.{shapes}
use Rattle.fit_profile.proofs.InBytes.{first_in}
use Rattle.fit_profile.proofs.look.first_in.Given as goal

abbrev pub invariant-loop-field : goal.invariant-loop-field
invariant-loop-field l = record {
  first : (o : Order) → first_in {A = Global} o l.fields l.bytes l.number ≡ first_in o (drop l.field-index l.fields) l.rest l.number;
  enough : sizes (shapes (drop l.field-index l.fields)) ≤ length l.rest;
}
