use Rattle.fit_cells.proofs.RowFacts.{reads_one_way}
use Rattle.fit_cells.proofs.laws.text_reads_one_way.Goals as goal

pub returns : goal.returns
returns c = reads_one_way
