use Rattle.fit_cells.proofs.Common.{arith}
use Rattle.fit_cells.proofs.PairFacts.{pair_at}
use Rattle.fit_cells.proofs.hexadecimal.pair.Goals as goal

pub returns : goal.returns
returns c = pair_at c.args.byte (omega arith)
