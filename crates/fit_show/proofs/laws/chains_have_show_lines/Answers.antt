use Rattle.fit_show.proofs.LinesOfChains.{lines-of-chain}
use Rattle.fit_show.proofs.laws.chains_have_show_lines.Goals as goal

pub returns : goal.returns
returns g c = lines-of-chain
