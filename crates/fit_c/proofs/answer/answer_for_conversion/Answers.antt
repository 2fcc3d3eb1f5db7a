use Rattle.std.proofs.Common.{rules}
use Rattle.fit_c.proofs.answer.answer_for_conversion.Goals as goal

pub returns-in-Err-BadCell : goal.returns-in-Err-BadCell
returns-in-Err-BadCell c = search rules
