use Rattle.std.proofs.Common.{rules}
use Rattle.fit_texts.proofs.words.numbered_label.Goals as goal

pub returns : goal.returns
returns c = search rules
