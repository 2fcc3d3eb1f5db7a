use Rattle.fit_cells.proofs.Common.{◌≡◌, ◌++◌, take, flat_map, hex_digits}
use Rattle.fit_cells.proofs.hexadecimal.put_bytes.Given as goal

abbrev pub invariant-loop-byte : goal.invariant-loop-byte
invariant-loop-byte l = l.text.items ≡ l.initial.text.items ++ flat_map (λ b. hex_digits 2 b) (take l.byte-index l.bytes)
