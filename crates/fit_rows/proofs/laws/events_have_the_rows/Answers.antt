use Rattle.fit_rows.proofs.RowsOfEvents.{rows-of-chain}
use Rattle.fit_rows.proofs.laws.events_have_the_rows.Goals as goal

pub returns : goal.returns
returns g c = rows-of-chain
