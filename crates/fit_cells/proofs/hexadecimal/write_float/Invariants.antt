use Rattle.fit_cells.proofs.Common.{◌≡◌, ◌+◌, ◌-◌, ◌*◌, ◌++◌, codes, length, take, drop, hex_digits}
use Rattle.fit_cells.proofs.hexadecimal.write_float.Given as goal

abbrev pub invariant-loop-written : goal.invariant-loop-written
invariant-loop-written l = record {
  size : length l.row ≡ length l.fn.row;
  end : l.end ≡ l.at + (2 + 2 * l.written);
  text : take l.end l.row ++ hex_digits (2 * (l.width - l.written)) l.bits ≡ take l.at l.fn.row ++ (codes "0x" ++ hex_digits (2 * l.width) l.bits);
  after : drop l.end l.row ≡ drop l.end l.fn.row;
}
