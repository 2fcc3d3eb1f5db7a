use Rattle.std.proofs.Common.{refl}
use Rattle.fit_names.proofs.field_number.of_record.Goals as goal

pub returns : goal.returns
returns c = refl
