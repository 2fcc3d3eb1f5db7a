use Rattle.fit_csv.proofs.Common.{fields_of}
use Rattle.csv.proofs.RecordFacts.{field-there}
use Rattle.fit_csv.proofs.from.cells.cell_at.Goals as goal

pub returns-in-None : goal.returns-in-None
returns-in-None c within = let value = c.in-None.ensures.value in absurd (field-there (fields_of c.args.row.now) c.args.place within (cc value))
