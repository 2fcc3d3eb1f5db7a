use Rattle.fit_from_messages.proofs.ChainBack.{blocks_come_back}
use Rattle.fit_from_messages.proofs.laws.blocks_come_back.Goals as goal

pub returns : goal.returns
returns c = blocks_come_back
