use Rattle.fit_decode.proofs.Common.{◌≡◌, ◌+◌, ◌-◌, List, [], length, None, FitFile, chain_limit, IsViable, at_header, HasCome, ComesToRecords, Eaten}
use Rattle.fit_decode.proofs.readers.file.read_file.Given as goal

abbrev pub invariant-reading : goal.invariant-reading
invariant-reading g l = record {
  fresh : l.decoder.refusal ≡ None;
  viable : IsViable g.row.A.Denot chain_limit l.decoder.bytes;
  counted : l.count ≡ length l.decoder.bytes;
  tally : l.count + length l.initial.taken.items ≡ l.initial.count + length l.taken.items;
  eaten : Eaten l.initial.decoder.bytes l.initial.taken.items l.taken.items (g.S.Source.remaining l.initial.source) (g.S.Source.remaining l.source) l.decoder;
  stands : (files : List (FitFile g.row.A.Denot)) → HasCome files (at_header []) l.initial.decoder.bytes
      → ComesToRecords files l.head l.records l.decoder.bytes;
}

abbrev pub decreases-reading : goal.decreases-reading
decreases-reading g l = 144115188075855872 - length l.decoder.bytes
