use Rattle.fit_csv.proofs.Common.{◌∙◌, sym, ap, refl, length}
use Rattle.std.proofs.lemmas.Bool.{true≢false}
use Rattle.fit_csv.proofs.from.judge.is_first_line.Goals as goal

pub returns-in-Some : goal.returns-in-Some
returns-in-Some c = (
  λ is. sym c.in-Some.ensures.some ∙ c.are_first_line.ensures.0 is,
  λ e. c.are_first_line.ensures.1 (c.in-Some.ensures.some ∙ e),
)

pub returns-in-None : goal.returns-in-None
returns-in-None c = (
  λ is. absurd (true≢false (sym is)),
  λ e. absurd (c.in-None.ensures.none refl (ap length e)),
)
