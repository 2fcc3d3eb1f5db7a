use Rattle.fit_step.proofs.SkippedRecords.{one_set, together_set}
use Rattle.fit_step.proofs.known_sizes.put_size.Goals as goal

pub put_by_all-requires : goal.put_by_all-requires
put_by_all-requires c = c.requires

pub returns-then-has_compressed : goal.returns-then-has_compressed
returns-then-has_compressed c = c.put_by_all.ensures

pub returns : goal.returns
returns c =
    let sizes = c.args.sizes.now in
    let local = c.args.local in
    record {
      put = one_set sizes local c.args.size c.told-sizes c.requires.local c.requires.together (c.has_compressed.ensures c.if-has_compressed.false);
      together = together_set sizes local c.args.size c.requires.local c.requires.together;
    }
