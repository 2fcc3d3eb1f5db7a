use Rattle.fit_record.proofs.Common.{◌≡◌, true, false, le-leb, lt-leb, nat_le}
use Rattle.fit_record.proofs.environment.Env.finishes.Goals as goal

pub can_fill_with-requires : goal.can_fill_with-requires
can_fill_with-requires g c = assumption

pub can_fill_from-requires : goal.can_fill_from-requires
can_fill_from-requires g c = assumption

pub returns-then-to_come-lt2 : goal.returns-then-to_come-lt2
returns-then-to_come-lt2 g c = let few : nat_le 2 c.args.to_come ≡ false = lt-leb _ _ c.if-to_come-lt2.true in rw few c.can_fill_with.ensures

pub returns-else-to_come-lt2 : goal.returns-else-to_come-lt2
returns-else-to_come-lt2 g c = let more : nat_le 2 c.args.to_come ≡ true = le-leb _ _ c.if-to_come-lt2.false in rw more c.can_fill_from.ensures
