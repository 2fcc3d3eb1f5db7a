use Rattle.fit_record.proofs.Common.{rules}
use Rattle.fit_record.proofs.definition.are_same.Goals as goal

pub returns : goal.returns
returns g c = search rules
