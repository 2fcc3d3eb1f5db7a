use Rattle.fit_numbers.proofs.Common.{◌≡◌, drop, digits_in}
use Rattle.fit_numbers.proofs.digits.size_of.Given as goal

abbrev pub invariant-loop-place : goal.invariant-loop-place
invariant-loop-place l = digits_in 0 l.fn.text ≡ digits_in l.size (drop l.place l.fn.text)
