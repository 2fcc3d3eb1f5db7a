use Rattle.fit_from_messages.proofs.SameSayings.{items_come_back}
use Rattle.fit_from_messages.proofs.laws.items_come_back.Goals as goal

pub returns : goal.returns
returns c = items_come_back
