use Rattle.fit_numbers.proofs.Common.{◌≡◌, drop, digits_in}
use Rattle.fit_numbers.proofs.digits.size_after.Given as goal

abbrev pub invariant-loop-byte : goal.invariant-loop-byte
invariant-loop-byte l = digits_in l.fn.before l.fn.text ≡ digits_in l.size (drop l.byte-index l.fn.text)
