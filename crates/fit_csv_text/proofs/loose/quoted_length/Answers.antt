use Rattle.std.proofs.Common.{◌≡◌, ◌∙◌, ◌+◌, ◌++◌, arith, get_or, not, true, subst, sym, List, ℕ, take, length}
use Rattle.std.proofs.lemmas.List.{take_all}
use Rattle.fit_csv_text.proofs.LooseTexts.{closed, closes-more, plain-stays, quote-turns}
use Rattle.fit_csv_text.specs.inner.Loose.{Closes}
use Rattle.fit_csv_text.proofs.loose.quoted_length.Goals.{then-b-eq34, else-b-eq34+else-not-is_open}
use Rattle.fit_csv_text.proofs.loose.quoted_length.Goals as goal

pub returns-then-not-is_open : goal.returns-then-not-is_open
returns-then-not-is_open c =
    (c.loop-i.auto.i-end, closed c.loop-i.is_open (take c.loop-i.i c.args.text.now) c.if-not-is_open.true c.loop-i.invariant)

pub loop-i-preserved : goal.loop-i-preserved
loop-i-preserved c =
    let text = c.args.text.now in
    let i = c.loop-i.i in
    let b = get_or text i 0 in
    let was = c.loop-i.is_open in
    elim c.if-b-eq34.branch [
      | then-b-eq34 w ↦
          subst (λ next. (more : List ℕ) → Closes next more → Closes true (take (i + 1) text ++ more)) (sym w.is_open-is)
          (closes-more text i was (not was) c.loop-i-test.true (quote-turns was b w.if-b-eq34.true) c.loop-i.invariant)
      | else-b-eq34+else-not-is_open w ↦
          subst (λ next. (more : List ℕ) → Closes next more → Closes true (take (i + 1) text ++ more)) (sym w.is_open-is)
          (closes-more text i was was c.loop-i-test.true (plain-stays was b w.if-not-is_open.false w.if-b-eq34.false) c.loop-i.invariant)
    ]

pub returns-else-is_open : goal.returns-else-is_open
returns-else-is_open c =
    let text = c.args.text.now in
    let all : take c.loop-i.i text ≡ take (length text) text = take_all c.loop-i.i text c.loop-i-test.false ∙ sym (take_all (length text) text (omega arith)) in
    (omega arith, subst (λ (x : List ℕ). Closes true x) all (closed c.loop-i.is_open (take c.loop-i.i text) c.if-is_open.false c.loop-i.invariant))
