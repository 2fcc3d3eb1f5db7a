use Rattle.std.proofs.Common.{sym, subst, List, ℕ}
use Rattle.std.proofs.lemmas.Result.{MatchResult-weaker}
use Rattle.fit_csv_text.proofs.PlainTexts.{quote-not-plain}
use Rattle.fit_csv_text.specs.inner.Loose.{WritesOn}
use Rattle.fit_csv_text.proofs.loose.take_one.Goals as goal

pub returns-in-Some-clause-goes : goal.returns-in-Some-clause-goes
returns-in-Some-clause-goes c =
    MatchResult-weaker c.take_quoted.result c.take_quoted.ensures.goes (λ left h.
    subst (λ (t : List ℕ). WritesOn t left.now c.args.written.now.items c.take_quoted.new.written.items) (sym c.in-Some.ensures) h)
    (λ e p. p)

pub returns-in-Some-clause-lines : goal.returns-in-Some-clause-lines
returns-in-Some-clause-lines c plain = absurd (quote-not-plain c.args.text.now c.in-Some.rest.now c.in-Some.ensures plain)

pub returns-in-Some-clause-room : goal.returns-in-Some-clause-room
returns-in-Some-clause-room c plain some fits = absurd (quote-not-plain c.args.text.now c.in-Some.rest.now c.in-Some.ensures plain)
