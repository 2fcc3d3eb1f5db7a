use Rattle.fit_record.proofs.KeptInPlaces.{kept_none}
use Rattle.fit_record.proofs.environment.Env.new.Goals as goal

pub invariant_of-result : goal.invariant_of-result
invariant_of-result g c = λ local. kept_none _ 16 _ local
