use Rattle.fit_step.proofs.Common.{◌≡◌, ◌-◌, ◌*◌, ◌++◌, length, take, flat_map, field_bytes}
use Rattle.fit_step.proofs.repeated.are_few.Given as goal

abbrev pub invariant-loop-field : goal.invariant-loop-field
invariant-loop-field l = record {
  told : flat_map field_bytes (take l.field-index l.fields) ++ l.rest ≡ l.bytes;
  long : length l.rest ≡ (length l.fields - l.field-index) * 3;
}
