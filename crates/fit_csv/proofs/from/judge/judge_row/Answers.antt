use Rattle.fit_csv.proofs.Common.{subst, sym, ap, refl, inr, length, Row, ChainStep, IsMisfit, IsBadCell}
use Rattle.fit_csv.proofs.ChainSteps.{CanStep}
use Rattle.fit_csv.specs.declared.from.misfit.Misfit.TheVariants.{Kind}
use Rattle.fit_csv.proofs.from.judge.judge_row.Goals as goal

pub returns-in-Ok-clause-ok : goal.returns-in-Ok-clause-ok
returns-in-Ok-clause-ok c = subst (λ (r : Row). ChainStep c.args.chain.now r c.take_row.new.self) c.in-Some.ensures.some c.in-Ok.ensures.ok

pub returns-in-Err-Kind-clause-err : goal.returns-in-Err-Kind-clause-err
returns-in-Err-Kind-clause-err c = (
  refl,
  inr (subst (λ (r : Row). IsMisfit (CanStep c.args.chain.now) r Kind) c.in-Some.ensures.some
      (rw c.in-Err-Kind.field-0-is at c.in-Err-Kind.ensures.err)),
)

pub returns-in-Err-Cell-clause-err : goal.returns-in-Err-Cell-clause-err
returns-in-Err-Cell-clause-err c = (
  refl,
  ap (λ (r : Row). length r) (sym c.in-Some.ensures.some),
  subst (λ (r : Row). IsBadCell (CanStep c.args.chain.now) r c.in-Err-Cell.column) c.in-Some.ensures.some (rw c.in-Err-Cell.field-0-is at
      c.in-Err-Cell.ensures.err),
)
