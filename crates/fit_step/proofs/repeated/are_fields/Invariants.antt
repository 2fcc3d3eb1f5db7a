use Rattle.fit_step.proofs.Common.{◌≡◌, ◌+◌, ◌*◌, flat_map, field_bytes, length}
use Rattle.fit_step.proofs.repeated.are_fields.Given as goal

abbrev pub invariant-loop : goal.invariant-loop
invariant-loop l = record {
  told : flat_map field_bytes l.left ≡ l.rest → flat_map field_bytes l.fields ≡ l.bytes;
  long : length l.rest ≡ 3 * length l.left;
  passed : length l.left + 8 * l.counter ≡ length l.fields;
}
