use Rattle.fit_cells.proofs.Common.{◌≡◌, ◌<◌, ◌^◌, drop, read_hex}
use Rattle.fit_cells.proofs.hexadecimal.read_digits.Given as goal

abbrev pub invariant-loop-digit : goal.invariant-loop-digit
invariant-loop-digit l = record {
  value : read_hex 0 l.digits ≡ read_hex l.number (drop l.digit-index l.digits);
  below : l.number < 16 ^ l.digit-index;
}
