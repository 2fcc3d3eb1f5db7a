use Rattle.fit_table.proofs.TableRows.{table-reads-back}
use Rattle.fit_table.proofs.laws.tables_read_back.Goals as goal

pub returns : goal.returns
returns g c = table-reads-back
