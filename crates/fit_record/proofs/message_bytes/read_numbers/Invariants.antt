use Rattle.fit_record.proofs.Common.{◌≡◌, ◌-◌, ◌*◌, ◌++◌, length, numbers_of}
use Rattle.fit_record.proofs.message_bytes.read_numbers.Given as goal

abbrev pub invariant-loop : goal.invariant-loop
invariant-loop g l = record {
  told : l.bits ++ numbers_of l.order l.width (l.count - l.counter) l.rest ≡ numbers_of l.order l.width l.count l.bytes;
  long : length l.rest ≡ (l.count - l.counter) * l.width;
}
