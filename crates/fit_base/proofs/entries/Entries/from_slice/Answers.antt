use Rattle.fit_base.proofs.Common.{rules}
use Rattle.fit_base.proofs.entries.Entries.from_slice.Goals as goal

pub returns : goal.returns
returns g c = search rules
