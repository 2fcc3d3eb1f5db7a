use Rattle.std.proofs.Common.{rules}
use Rattle.fit_texts.proofs.kept.message.KeptMessage.local.Goals as goal

pub returns : goal.returns
returns c = search rules
