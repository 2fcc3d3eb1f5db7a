use Rattle.fit_csv.proofs.Common.{◌≡◌, take}
use Rattle.fit_csv.proofs.from.header.bytes_of.Given as goal

abbrev pub invariant-loop-number : goal.invariant-loop-number
invariant-loop-number l = l.bytes.items ≡ take l.number-index l.numbers
