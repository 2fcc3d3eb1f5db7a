use Rattle.fit_writer.proofs.Grown.{are_more}
use Rattle.fit_writer.proofs.data.add_record.Goals as goal

pub returns-in-Ok-clause-are : goal.returns-in-Ok-clause-are
returns-in-Ok-clause-are c =
    rw (c.in_ok-extend_from_slice.ensures.items, c.in-Ok.ensures.ok)
    (are_more c.args.stream.now c.args.record_.now c.args.section.now.items c.args.bytes.now c.requires.are c.requires.fits c.requires.bytes c.requires.room)
