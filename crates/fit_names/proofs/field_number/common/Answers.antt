use Rattle.std.proofs.Common.{refl}
use Rattle.fit_names.proofs.field_number.common.Goals as goal

pub returns : goal.returns
returns c = refl
