use Rattle.fit_cells.proofs.AddedRows.{text_one}
use Rattle.fit_cells.proofs.Common.{rules}
use Rattle.fit_cells.proofs.rows.put_row.Goals as goal

pub returns : goal.returns
returns c = search (rules, text_one)
