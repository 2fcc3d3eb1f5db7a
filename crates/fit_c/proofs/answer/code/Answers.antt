use Rattle.std.proofs.Common.{rules}
use Rattle.fit_c.proofs.answer.code.Goals as goal

pub returns-in-NoFit : goal.returns-in-NoFit
returns-in-NoFit c = search rules
