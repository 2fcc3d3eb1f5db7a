use Rattle.fit_base.proofs.ItemsOfPieces.{items_and_bytes}
use Rattle.fit_base.proofs.laws.items_and_bytes.Goals as goal

pub returns : goal.returns
returns g c = items_and_bytes
