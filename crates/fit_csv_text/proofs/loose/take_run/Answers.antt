use Rattle.std.proofs.Common.{◌≡◌, ◌+◌, ◌++◌, ◌∙◌, arith, false, get_or, sym, ap, subst, List, ℕ, take, take-append-drop}
use Rattle.std.proofs.lemmas.Result.{err_from_is_err_and}
use Rattle.fit_csv_text.proofs.LooseTexts.{run-goes-on}
use Rattle.fit_csv_text.proofs.PlainTexts.{plain-drop, run-none}
use Rattle.fit_csv_text.specs.Spellings.{HasPlainLines}
use Rattle.fit_csv_text.specs.inner.Loose.{WritesOn, NoneOf, is_mark}
use Rattle.fit_csv_text.proofs.loose.take_run.Goals as goal

pub returns-then-mark-clause-room : goal.returns-then-mark-clause-room
returns-then-mark-clause-room c some plain fits =
    let is : is_mark c.in-Some.first.now ≡ false = subst (λ (l : List ℕ). is_mark (get_or l 0 0) ≡ false) c.in-Some.ensures.cases.0 plain in
    cc (sym is ∙ sym c.mark.ensures ∙ c.if-mark.true)

pub returns-clause-goes : goal.returns-clause-goes
returns-clause-goes c =
    let text = c.args.text.now in
    let old = c.args.written.now.items in
    let count = c.run_length.result in
    let run = c.split_at.result.0.now in
    let left = c.split_at.result.1.now in
    let plain : NoneOf is_mark run =
    subst (λ (x : List ℕ). NoneOf is_mark x) (sym c.split_at.ensures.front)
    (run-none text c.in-Some.rest.now c.in-Some.first.now count c.in-Some.ensures.cases.0 (sym c.mark.ensures ∙ c.if-mark.false)
    c.run_length.ensures.within c.run_length.ensures.none) in
    let all : run ++ left ≡ text =
    ap (λ (x : List ℕ). x ++ left) c.split_at.ensures.front ∙ ap (λ (x : List ℕ). take (count + 1) text ++ x) c.split_at.ensures.back
    ∙ take-append-drop (count + 1) text in
    subst (λ (t : List ℕ). WritesOn t left old c.put.new.written.items) all
    (subst (λ (w : List ℕ). WritesOn (run ++ left) left old w) (sym c.in_ok-put.ensures.text) (run-goes-on old run left plain))

pub returns-clause-grows : goal.returns-clause-grows
returns-clause-grows c = (omega (arith, c.in_ok-put.ensures.long, c.split_at.ensures.front_len), c.in_ok-put.ensures.few)

pub returns-clause-lines : goal.returns-clause-lines
returns-clause-lines c plain =
    subst (λ (l : List ℕ). HasPlainLines l) (sym c.split_at.ensures.back) (plain-drop (c.run_length.result + 1) c.args.text.now plain)

pub returns-in_err-put-clause-room : goal.returns-in_err-put-clause-room
returns-in_err-put-clause-room c some plain fits =
    let p = err_from_is_err_and c.from_residual.result c.from_residual.ensures.1 in
    rw (p.1, p.2) (c.in_err-put.ensures.room (omega (arith, fits, c.split_at.ensures.front_len, c.run_length.ensures.few)))
