use Rattle.fit_table.proofs.Common.{sym, subst, IsPosition}
use Rattle.fit_table.proofs.columns.Places.position.Goals as goal

pub returns-in-0 : goal.returns-in-0
returns-in-0 c = λ fields are. subst (λ n. IsPosition fields n c.args.self.now.position_lat) (sym c.in-0.is) are.position_lat

pub returns-in-1 : goal.returns-in-1
returns-in-1 c = λ fields are. subst (λ n. IsPosition fields n c.args.self.now.position_long) (sym c.in-1.is) are.position_long
