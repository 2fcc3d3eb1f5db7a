use Rattle.std.proofs.Common.{rules}
use Rattle.fit_texts.proofs.kept.message.KeptMessage.count.Goals as goal

pub returns : goal.returns
returns c = search rules
