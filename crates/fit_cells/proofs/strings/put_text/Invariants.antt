use Rattle.fit_cells.proofs.Common.{◌≡◌, ◌++◌, take}
use Rattle.fit_cells.proofs.strings.put_text.Given as goal

abbrev pub invariant-loop-byte : goal.invariant-loop-byte
invariant-loop-byte l = l.text.items ≡ l.initial.text.items ++ take l.byte-index l.bytes
