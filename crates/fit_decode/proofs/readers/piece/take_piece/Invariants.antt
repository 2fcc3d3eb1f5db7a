use Rattle.fit_decode.proofs.Common.{◌≡◌, ◌-◌, ◌≤◌, List, length, FitFile, chain_limit, IsViable, fed, ComesToRecords}
use Rattle.fit_decode.proofs.readers.piece.take_piece.Given as goal

abbrev pub invariant-loop-at : goal.invariant-loop-at
invariant-loop-at g l = record {
  within : l.at ≤ length l.piece;
  is_fed : l.decoder ≡ fed l.initial.decoder l.piece l.at;
  stands : (files : List (FitFile g.row.A.Denot)) → ComesToRecords files l.initial.head l.initial.records l.initial.decoder.bytes
      → ComesToRecords files l.head l.records l.decoder.bytes;
  viable : IsViable g.row.A.Denot chain_limit l.decoder.bytes;
}

abbrev pub decreases-loop-at : goal.decreases-loop-at
decreases-loop-at g l = length l.piece - l.at
