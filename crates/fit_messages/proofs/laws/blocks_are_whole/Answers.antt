use Rattle.fit_messages.proofs.BlockLengths.{blocks_whole}
use Rattle.fit_messages.proofs.laws.blocks_are_whole.Goals as goal

pub returns : goal.returns
returns g c = blocks_whole
