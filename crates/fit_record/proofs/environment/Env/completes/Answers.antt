use Rattle.fit_record.proofs.Common.{◌≡◌, arith, true, le-leb, nat_le}
use Rattle.fit_record.proofs.environment.Env.completes.Goals as goal

pub finishes-requires : goal.finishes-requires
finishes-requires g c = assumption

pub returns : goal.returns
returns g c = let fits : nat_le c.args.to_come c.args.room ≡ true = le-leb _ _ (omega arith) in rw fits c.finishes.ensures
