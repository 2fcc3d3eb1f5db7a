use Rattle.fit_profile.proofs.Common.{◌≡◌, true, take, list_all, is_printable}
use Rattle.fit_profile.proofs.text.printable_bytes.Given as goal

abbrev pub invariant-loop-number : goal.invariant-loop-number
invariant-loop-number g l = record {
  bytes : l.bytes.items ≡ take l.number-index l.numbers;
  printable : list_all is_printable (take l.number-index l.numbers) ≡ true;
}
