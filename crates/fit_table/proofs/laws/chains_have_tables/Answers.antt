use Rattle.fit_table.proofs.TableRows.{table-of-chain}
use Rattle.fit_table.proofs.laws.chains_have_tables.Goals as goal

pub returns : goal.returns
returns g c = table-of-chain
