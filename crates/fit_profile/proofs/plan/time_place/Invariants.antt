use Rattle.fit_profile.proofs.Common.{◌≡◌, ◌≤◌, ◌+◌, ◌*◌, List, ℕ, drop}
use Rattle.std.specs.Global.{Global}
use Rattle.fit_base.specs.declared.number.Order.{Order}
use Rattle.fit_record.specs.Records.{sizes}
use Rattle.fit_profile.specs.inner.InBytes.{shapes}
use Rattle.fit_profile.proofs.InBytes.{first_in}
use Rattle.fit_profile.proofs.plan.time_place.Given as goal

abbrev pub invariant-loop-field : goal.invariant-loop-field
invariant-loop-field l = record {
  first : (o : Order) (bytes : List ℕ) → first_in {A = Global} o l.fields bytes 253 ≡ first_in o (drop l.field-index l.fields) (drop l.place bytes) 253;
  sum : l.place + sizes (shapes (drop l.field-index l.fields)) ≡ sizes (shapes l.fields);
  small : l.place ≤ 255 * l.field-index;
}
