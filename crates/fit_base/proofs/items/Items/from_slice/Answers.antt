use Rattle.fit_base.proofs.Common.{rules}
use Rattle.fit_base.proofs.items.Items.from_slice.Goals as goal

pub returns-clause-same : goal.returns-clause-same
returns-clause-same g c = search rules
