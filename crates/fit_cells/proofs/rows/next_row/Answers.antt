use Rattle.csv.specs.Records.{fields_of}
use Rattle.fit_cells.proofs.ReaderFacts.{next}
use Rattle.fit_cells.proofs.rows.next_row.Goals as goal

pub returns-clause-read : goal.returns-clause-read
returns-clause-read c text rows h =
    next c.args.reader.now c.read_byte_record.new.self c.in-Ok.found (fields_of c.read_byte_record.new.row) text rows h (c.in-Ok.ensures.reads h.trim h.ready)
    (c.in-Ok.ensures.ready h.trim) c.in-Ok.ensures.flexible
