use Rattle.fit_from_messages.proofs.OneReading.{says_one}
use Rattle.fit_from_messages.proofs.laws.blocks_say_one.Goals as goal

pub returns : goal.returns
returns c = says_one
