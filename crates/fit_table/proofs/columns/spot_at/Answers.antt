use Rattle.fit_table.proofs.Common.{refl}
use Rattle.std.proofs.Common.{rules}
use Rattle.fit_table.proofs.columns.spot_at.Goals as goal

pub returns : goal.returns
returns c = (refl, refl, record { width = search rules; room = search rules })
