use Rattle.fit_table.proofs.Common.{subst, sym, IsFirst}
use Rattle.fit_table.proofs.columns.placed.Goals as goal

pub returns-in-Some : goal.returns-in-Some
returns-in-Some c = λ fields number first. (subst (IsFirst fields number) (sym c.in-Some.ensures.0) first, c.in-Some.ensures.1)

pub returns-in-None : goal.returns-in-None
returns-in-None c = λ fields number first. first
