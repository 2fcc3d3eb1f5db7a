use Rattle.fit_messages.proofs.BlockLengths.{one_length}
use Rattle.fit_messages.proofs.laws.messages_have_one_length.Goals as goal

pub returns : goal.returns
returns g c = one_length
