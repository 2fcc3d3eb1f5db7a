use Rattle.fit_decode.proofs.Common.{◌-◌, length, Consumes, IsAfter}
use Rattle.fit_decode.proofs.readers.chain.read_files.Given as goal

-- the files so far, and the bytes taken for them
abbrev pub invariant-files : goal.invariant-files
invariant-files g l = record {
  beyond : IsAfter l.files.items l.decoder l.count l.taken.items;
  eats : Consumes (g.S.Source.remaining l.initial.source) (g.S.Source.remaining l.source) l.taken.items;
}

abbrev pub decreases-files : goal.decreases-files
decreases-files g l = 144115188075855872 - length l.taken.items
