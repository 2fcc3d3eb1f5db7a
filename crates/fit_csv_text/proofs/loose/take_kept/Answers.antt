use Rattle.std.proofs.Common.{◌++◌, ◌∷◌, [], ◌∙◌, ◌≡◌, arith, true, sym, ap, subst, List, ℕ, append_assoc, take, take-append-drop}
use Rattle.std.proofs.lemmas.Result.{MatchResult-weaker}
use Rattle.fit_csv_text.proofs.LooseTexts.{kept-goes-on}
use Rattle.fit_csv_text.specs.inner.Loose.{Closes, WritesOn, may_open, spot_from}
use Rattle.fit_csv_text.specs.declared.loose.Spot.TheVariants.{RowStart}
use Rattle.fit_csv_text.proofs.loose.take_kept.Goals as goal

pub returns-clause-goes : goal.returns-clause-goes
returns-clause-goes c =
    let old = c.args.written.now.items in
    let text = c.args.text.now in
    let n = c.in-Some.size in
    let kept = c.split_at.result.0.now in
    let after = c.split_at.result.1.now in
    let may : may_open (spot_from RowStart old) ≡ true =
    ap (λ (w : List ℕ). may_open (spot_from RowStart w)) (sym c.as_slice.ensures.value) ∙ sym c.opens.ensures ∙ c.if-not-opens.false in
    let closes : Closes true kept = subst (λ (x : List ℕ). Closes true x) (sym c.split_at.ensures.front) c.in-Some.ensures.1 in
    let all : kept ++ after ≡ text =
    ap (λ (x : List ℕ). x ++ after) c.split_at.ensures.front ∙ ap (λ (x : List ℕ). take n text ++ x) c.split_at.ensures.back ∙ take-append-drop n text in
    MatchResult-weaker c.end_cell.result c.end_cell.ensures.ends (λ left h.
    subst (λ (t : List ℕ). WritesOn (34 ∷ t) left.now old c.end_cell.new.written.items) all
    (subst (λ (w : List ℕ). WritesOn (34 ∷ (kept ++ after)) left.now old w)
    (sym (h.2 ∙ ap (λ (w : List ℕ). w ++ h.0)
    (c.in_ok-put.ensures.text ∙ ap (λ (w : List ℕ). w ++ kept) c.in_ok-put_byte.ensures.text ∙ append_assoc old (34 ∷ []) kept)
    ∙ append_assoc old (34 ∷ kept) h.0))
    (kept-goes-on old kept after left.now h.0 may closes h.1)))
    (λ e p. p)

pub returns-clause-grows : goal.returns-clause-grows
returns-clause-grows c =
    MatchResult-weaker c.end_cell.result c.end_cell.ensures.grows
    (λ left h. (omega (arith, c.in_ok-put_byte.ensures.grows.0, c.in_ok-put.ensures.long, h.0), h.1)) (λ e p. p)
