use Rattle.fit_base.proofs.Common.{rules}
use Rattle.fit_base.proofs.entries.Entries.pop.Goals as goal

pub returns-clause-some : goal.returns-clause-some
returns-clause-some g c = search rules
