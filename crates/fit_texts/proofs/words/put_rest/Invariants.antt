use Rattle.fit_texts.proofs.Common.{◌≡◌, ◌++◌, take, flat_map, hex_digits}
use Rattle.std.proofs.Common.{codes}
use Rattle.fit_texts.proofs.words.put_rest.Given as goal

abbrev pub invariant-loop-byte : goal.invariant-loop-byte
invariant-loop-byte l = l.value.items ≡ codes "0x" ++ flat_map (λ b. hex_digits 2 b) (take l.byte-index l.rest)
