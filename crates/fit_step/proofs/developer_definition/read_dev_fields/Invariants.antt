use Rattle.fit_step.proofs.Common.{◌≡◌, ◌-◌, ◌*◌, ◌++◌, length, flat_map, dev_field_bytes}
use Rattle.fit_step.proofs.developer_definition.read_dev_fields.Given as goal

abbrev pub invariant-loop : goal.invariant-loop
invariant-loop g l = record {
  told : flat_map dev_field_bytes l.fields ++ l.rest ≡ l.bytes;
  counted : length l.fields ≡ l.counter;
  long : length l.rest ≡ (l.count - l.counter) * 3;
}
