use Rattle.std.proofs.Common.{◌<◌, List, length, reverse, subst, sym}
use Rattle.std.specs.Global.{Global}
use Rattle.fit_record.specs.declared.file.FitFile.{FitFile}
use Rattle.fit_record.specs.Files.{chain_limit}
use Rattle.fit_writer.proofs.WholeFiles.{one_more}
use Rattle.fit_writer.proofs.chain.Chain.put.Goals as goal

pub invariant_of-self-2 : goal.invariant_of-self-2
invariant_of-self-2 c =
    let s = c.self.inside in
    rw c.add_from.ensures
    (one_more s.bytes.items _ c.args.head.now c.args.section.now s.count s.files.items c.args.header.now (reverse c.args.stream.now) c.self.invariant
    (subst (λ (fs : List (FitFile Global)). length fs < chain_limit) (sym c.self.view_is) c.requires.room) c.requires.fits c.requires.head
    c.requires.data.data_are c.requires.data.fit c.in_ok-put_whole.ensures.ok)
