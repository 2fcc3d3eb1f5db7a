use Rattle.std.proofs.Common.{arith, sym, subst, List, ℕ}
use Rattle.std.proofs.lemmas.Result.{MatchResult-weaker}
use Rattle.fit_csv_text.proofs.PlainTexts.{first-no-mark, plain-after-line}
use Rattle.fit_csv_text.specs.Spellings.{HasPlainLines}
use Rattle.fit_csv_text.specs.inner.Loose.{WritesOn}
use Rattle.fit_csv_text.proofs.loose.take_unquoted.Goals as goal

pub returns-in-Some-clause-goes : goal.returns-in-Some-clause-goes
returns-in-Some-clause-goes c =
    MatchResult-weaker c.take_line.result c.take_line.ensures.goes (λ left h.
    subst (λ (t : List ℕ). WritesOn t left.now c.args.written.now.items c.take_line.new.written.items) (sym c.in-Some.ensures) h)
    (λ e p. p)

pub returns-in-Some-clause-lines : goal.returns-in-Some-clause-lines
returns-in-Some-clause-lines c plain =
    MatchResult-weaker c.take_line.result c.take_line.ensures.same (λ left h.
    subst (λ (l : List ℕ). HasPlainLines l) (sym h) (plain-after-line c.args.text.now c.in-Some.left.now c.in-Some.ensures plain))
    (λ e p. p)

pub returns-in-Some-clause-room : goal.returns-in-Some-clause-room
returns-in-Some-clause-room c plain some fits = c.take_line.ensures.room (omega (arith, fits))

pub returns-in-None-clause-room : goal.returns-in-None-clause-room
returns-in-None-clause-room c plain some fits = c.take_run.ensures.room some (first-no-mark c.args.text.now plain c.in-None.ensures) fits
