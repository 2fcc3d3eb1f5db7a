use Rattle.std.proofs.Common.{refl}
use Rattle.fit_names.proofs.message_number.all.Goals as goal

pub returns : goal.returns
returns c = refl
