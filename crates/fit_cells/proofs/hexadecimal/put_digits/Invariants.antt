use Rattle.fit_cells.proofs.Common.{◌≡◌, ◌++◌, ◌-◌, StillBegins, hex_digits}
use Rattle.fit_cells.proofs.hexadecimal.put_digits.Given as goal

abbrev pub invariant-loop-written : goal.invariant-loop-written
invariant-loop-written l =
    (l.text.items ++ hex_digits (l.digits - l.written) l.number ≡ l.initial.text.items ++ hex_digits l.digits l.number)
    × StillBegins l.initial.text.items l.text.items
