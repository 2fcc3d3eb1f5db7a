use Rattle.fit_decode.proofs.Common.{◌≡◌, ◌++◌, take, None, IsHeaderPart}
use Rattle.fit_decode.proofs.scan.scan_header.Given as goal

abbrev pub invariant-loop-i : goal.invariant-loop-i
invariant-loop-i l = record {
  is : l.reader ≡ record { bytes = l.initial.reader.bytes ++ take l.i l.piece; refusal = None };
  begun : IsHeaderPart (l.initial.reader.bytes ++ take l.i l.piece);
}
