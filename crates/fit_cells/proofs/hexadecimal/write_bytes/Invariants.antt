use Rattle.fit_cells.proofs.Common.{◌≡◌, ◌+◌, ◌*◌, ◌++◌, codes, length, take, drop, flat_map, hex_digits}
use Rattle.fit_cells.proofs.hexadecimal.write_bytes.Given as goal

abbrev pub invariant-loop-byte : goal.invariant-loop-byte
invariant-loop-byte l = record {
  size : length l.row ≡ length l.fn.row;
  end : l.end ≡ l.at + (2 + 2 * l.byte-index);
  text : take l.end l.row ≡ take l.at l.fn.row ++ (codes "0x" ++ flat_map (λ b. hex_digits 2 b) (take l.byte-index l.bytes));
  after : drop l.end l.row ≡ drop l.end l.fn.row;
}
