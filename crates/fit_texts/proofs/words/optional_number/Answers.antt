use Rattle.std.proofs.Common.{rules}
use Rattle.fit_texts.proofs.words.optional_number.Goals as goal

pub returns-in-Some : goal.returns-in-Some
returns-in-Some c = search rules
